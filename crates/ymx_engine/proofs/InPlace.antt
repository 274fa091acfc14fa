-- Calls that read the wire feed no frame that waits for a place.
use Rattle.std.proofs.Common.{◌≡◌, ◌⊎◌, ℕ, ◌+◌, ◌-◌, ◌≤◌, ◌==◌, ◌&&◌, List, [], ◌∷◌, ◌++◌, length, take, drop, Bool, true, false, Option, None, Some, inl, inr, refl, sym, ap, ◌∙◌, subst, nat_lt, if◌then◌else◌}
use Rattle.std.specs.Io.KnownBytes.{Consumes}
use Rattle.std.specs.Option.{option_map_or}
use Rattle.ymx_machine.specs.declared.types.Reply.TheVariants as reply
use Rattle.ymx_model.specs.declared.types.Event.TheVariants as event
use Rattle.ymx_model.specs.session.Emissions.{in_turn}
use Rattle.ymx_model.specs.session.Histories.{Gives}
use Rattle.ymx_model.specs.session.Sessions.{Session, is_running}
use Rattle.ymx_session.specs.Opens.{records_left}
use Rattle.ymx_session.specs.Passing.{passing}
use Rattle.ymx_session.specs.Streams.{header_begun}
use Rattle.ymx_session.specs.declared.passing.Passing.{Passing}
use Rattle.ymx_session.proofs.Passes.{passing-is}
use Rattle.ymx_engine.specs.declared.device.Pulled.{Pulled}
use Rattle.ymx_engine.specs.declared.row.Row.{Row}
use Rattle.ymx_engine.specs.Devices.{IsPulled, Seen, pulled_count}
use Rattle.ymx_engine.specs.Engines.{Engine, KeepsWire}
use Rattle.ymx_engine.specs.Passes.{IsRow, behind_row, counts_of}
use Rattle.ymx_engine.specs.Places.{FeedsToFull, is_put_off, lacks_place, may_open}
use Rattle.ymx_engine.specs.InPlace.{FeedsOn, OffersRow, PassesRow, PullsWire, ReadsInPlace, ReadsOnce, ReadsSteps}
use Rattle.ymx_engine.specs.Served.{Serving}
use Rattle.ymx_engine.specs.Steps.{Keeps, PassesPart}
use Rattle.ymx_engine.specs.Tunnels.{Tunnel}
use Rattle.ymx_engine.specs.Turns.{IsDue, KeepsConnections, Connections, Waits, turns_left}
use Rattle.ymx_engine.proofs.Queueing.{keeps_counted, keeps_then}
use Rattle.ymx_engine.proofs.Stopping.{one_off}
use Rattle.ymx_engine.proofs.Tending.{serving_connections}
use Rattle.ymx_engine.proofs.Turning.{due_first}

-- ---- steps, one after the other

pub in_place_none : (a : Tunnel) → ReadsInPlace a a
in_place_none a = ([], refl)

steps_then : (ts us : List Tunnel) (a b c : Tunnel) → ReadsSteps ts a b → ReadsSteps us b c → ReadsSteps (ts ++ us) a c
steps_then [] us a b c same y = subst (λ (t : Tunnel). ReadsSteps us t c) same y
steps_then (t ∷ ts) us a b c (once, x) y = (once, steps_then ts us t b c x y)

pub in_place_then : (a b c : Tunnel) → ReadsInPlace a b → ReadsInPlace b c → ReadsInPlace a c
in_place_then a b c x y = (x.0 ++ y.0, steps_then x.0 y.0 a b c x.1 y.1)

once : (a b : Tunnel) → ReadsOnce a b → ReadsInPlace a b
once a b x = (b ∷ [], (x, refl))

pub in_place_asked : (a b c : Tunnel) → ReadsInPlace a b → c.engine ≡ b.engine → c.connections ≡ record b.connections { turns_to_place = if lacks_place b.engine then Some (turns_left b.connections) else None } → ReadsInPlace a c
in_place_asked a b c x engine counts = in_place_then a b c x (once b c (inr (inl (record { engine = engine; counts = counts }))))

pub in_place_fed : (a b c : Tunnel) → ReadsInPlace a b → is_put_off b ≡ false → FeedsToFull b.engine c.engine → Keeps b c → c.connections.turns_to_place ≡ None → ReadsInPlace a c
in_place_fed a b c x free feeds keeps anew = in_place_then a b c x (once b c (inr (inr (inl (free, record { feeds = feeds; keeps = keeps; anew = anew })))))

pub in_place_passed : (row : Row) (a b c : Tunnel) → ReadsInPlace a b → PassesRow row b c → ReadsInPlace a c
in_place_passed row a b c x p = in_place_then a b c x (once b c (inr (inr (inr (row, p)))))

pub in_place_pulled : (a b : Tunnel) → (b ≡ a) ⊎ PullsWire a b → ReadsInPlace a b
in_place_pulled a b (inl same) = ([], same)
in_place_pulled a b (inr x) = once a b (inl x)

-- ---- no frame comes next within a payload

lacks_none : (p : Passing) (e : Engine) → passing e.session ≡ Some p → lacks_place e ≡ false
lacks_none p e is =
    let inside = ap (λ i. option_map_or (λ (n : ℕ). n == 0) (header_begun i) false) (passing-is p e.session is).incoming in
    one_off (records_left e.session == 0) (option_map_or (λ (n : ℕ). n == 0) (header_begun e.session.incoming) false) (may_open e.incoming) (inr (inl inside))

pub free_inside : (row : Row) (waits : List ℕ) (s : Session) (t : Tunnel) → s ≡ t.engine.session → IsRow row waits s → is_put_off t ≡ false
free_inside row waits s t e is = ap (λ (b : Bool). b && nat_lt 0 (turns_left t.connections)) (lacks_none _ t.engine (subst (λ (v : Session). passing v ≡ Some (record { id = row.id; missing = is.missing })) e (is.passes).passes))

-- ---- a row

offers_from : (row : Row) (count : ℕ) (a b c : Tunnel) → a ≡ b → OffersRow row count a c → OffersRow row count b c
offers_from row count a b c e x = subst (λ (t : Tunnel). OffersRow row count t c) e x

pub offers_row : (row : Row) (count : ℕ) (waits : List ℕ) (old a b : Tunnel) → a ≡ old → waits ≡ a.engine.incoming → IsRow row old.engine.incoming old.engine.session → count + length (behind_row (counts_of row) waits) ≤ length waits → b.engine.incoming ≡ drop count a.engine.incoming →
    PassesPart row.id waits a.engine.session b.engine.session a.connections b.connections count → b.connections.turns_to_place ≡ a.connections.turns_to_place → (Serving a → Serving b) → OffersRow row count old b
offers_row row count waits old a b e same is within rest part place serves = offers_from row count a old b e (record {
  is_row = subst (λ (t : Tunnel). IsRow row t.engine.incoming t.engine.session) (sym e) is;
  within = subst (λ (v : List ℕ). count + length (behind_row (counts_of row) v) ≤ length v) same within;
  part = subst (λ (v : List ℕ). PassesPart row.id v a.engine.session b.engine.session a.connections b.connections count) same part;
  rest = rest;
  place = place;
  serves = serves;
})

-- what the device didn't take of the first frame came too
pub passes_rest : (row : Row) (count most : ℕ) (a b c : Tunnel) → OffersRow row count a b → most ≡ row.first - count → FeedsToFull b.engine c.engine → length b.engine.incoming ≤ length c.engine.incoming + most → Keeps b c → c.connections.turns_to_place ≡ None → PassesRow row a c
passes_rest row count most a b c x is feeds few keeps anew = record {
  count = count;
  offered = b;
  offers = x;
  behind = inr (record { feeds = feeds; keeps = keeps; anew = anew }, subst (λ (n : ℕ). length b.engine.incoming ≤ length c.engine.incoming + n) is few);
}

pub passes_offered : (row : Row) (count : ℕ) (a b : Tunnel) → OffersRow row count a b → PassesRow row a b
passes_offered row count a b x = record { count = count; offered = b; offers = x; behind = inl refl }

-- ---- bytes of the wire

pub pulls_gave : (r : Pulled) (buffer : List ℕ) (a b : Tunnel) → a.engine.incoming ≡ [] → IsPulled r buffer a.wire b.wire → b.engine.session ≡ a.engine.session → b.engine.incoming ≡ take (pulled_count r) buffer → b.connections ≡ record a.connections { turns_to_place = None } → PullsWire a b
pulls_gave r buffer a b none x same incoming connections =
    let kept : KeepsConnections a.connections b.connections = subst (KeepsConnections a.connections) (sym connections) (keeps_counted a.connections None) in
    record {
      none = none;
      gave = subst (Consumes a.wire.left b.wire.left) (sym incoming) x.gave;
      heard = inl same;
      connections = kept;
      serves = serving_connections a b same kept;
      anew = ap (λ (l : Connections). l.turns_to_place) connections;
    }

pub pulls_lost : (r : Pulled) (buffer : List ℕ) (w : Seen) (m : Engine) (a l v b : Tunnel) → a.engine.incoming ≡ [] → IsPulled r buffer a.wire w → m.incoming ≡ take (pulled_count r) buffer → v ≡ l → l.wire ≡ w → KeepsWire m l.engine → is_running l.engine.session.status ≡ false →
    Gives in_turn a.engine.session event.FeedEnd reply.Done l.engine.session → KeepsConnections a.connections l.connections → (Serving a → Serving l) → Keeps l b → b.connections ≡ record v.connections { turns_to_place = None } → b.engine ≡ v.engine → PullsWire a b
pulls_lost r buffer w m a l v b none x incoming now wire bytes lost heard connections serves k counts engine =
    let same : b.engine ≡ l.engine = engine ∙ ap (λ (t : Tunnel). t.engine) now in
    let session : l.engine.session ≡ b.engine.session = sym (ap (λ (e : Engine). e.session) same) in
    let waits : b.engine.incoming ≡ take (pulled_count r) buffer = ap (λ (e : Engine). e.incoming) same ∙ bytes.incoming ∙ incoming in
    let left : w.left ≡ b.wire.left = sym (ap (λ (d : Seen). d.left) (k.wire ∙ wire)) in
    record {
      none = none;
      gave = subst (Consumes a.wire.left b.wire.left) (sym waits) (subst (λ (d : Option (List ℕ)). Consumes a.wire.left d (take (pulled_count r) buffer)) left x.gave);
      heard = inr (subst (λ (s : Session). is_running s.status ≡ false) session lost, subst (λ (s : Session). Gives in_turn a.engine.session event.FeedEnd reply.Done s) session heard);
      connections = keeps_then a.connections l.connections b.connections connections k.connections;
      serves = λ h. k.serves (serves h);
      anew = ap (λ (y : Connections). y.turns_to_place) counts;
    }

pub pulls_from : (a b c : Tunnel) → a ≡ b → PullsWire a c → (c ≡ b) ⊎ PullsWire b c
pulls_from a b c e x = inr (subst (λ (t : Tunnel). PullsWire t c) e x)

-- ---- who waits as the frame comes to wait

-- it waited not, or has not waited yet
abbrev pub IsEarly : Tunnel → Type 0
IsEarly t = (is_put_off t ≡ false) ⊎ (t.connections.turns_to_place ≡ None)

-- it is asked
pub first_asked : (a b c : Tunnel) (off : Bool) → (b ≡ a) ⊎ (b.connections.turns_to_place ≡ None) → IsEarly a → off ≡ is_put_off b → off ≡ true → c.connections ≡ record b.connections { turns_to_place = if lacks_place b.engine then Some (turns_left b.connections) else None } →
    (b.connections.turns_to_place ≡ None → (id : ℕ) → Waits id b.connections → IsDue id c.connections) → (id : ℕ) → Waits id c.connections → IsDue id c.connections
first_asked a b c off (inr none) early e on counts first id waits = first none id (subst (λ (l : Connections). Waits id l) counts waits)
first_asked a b c off (inl same) (inr none) e on counts first id waits = first (ap (λ (t : Tunnel). t.connections.turns_to_place) same ∙ none) id (subst (λ (l : Connections). Waits id l) counts waits)
first_asked a b c off (inl same) (inl free) e on counts first id waits = let both : true ≡ false = sym on ∙ e ∙ ap is_put_off same ∙ free in absurd cc

-- what waited was fed
pub first_fed : (a : Tunnel) → a.connections.turns_to_place ≡ None → (id : ℕ) → Waits id a.connections → IsDue id a.connections
first_fed a none id waits = due_first a.connections none id waits

pub first_ends : (a b : Tunnel) → (b ≡ a) ⊎ (b.connections.turns_to_place ≡ None) → IsEarly a → is_put_off b ≡ true → (id : ℕ) → Waits id b.connections → IsDue id b.connections
first_ends a b (inr none) early on id waits = first_fed b none id waits
first_ends a b (inl same) (inr none) on id waits = first_fed b (ap (λ (t : Tunnel). t.connections.turns_to_place) same ∙ none) id waits
first_ends a b (inl same) (inl free) on id waits = let both : true ≡ false = sym on ∙ ap is_put_off same ∙ free in absurd cc

-- it waited not as the call began, or has not waited yet
pub early_on : (a b : Tunnel) → is_put_off a ≡ false → (b ≡ a) ⊎ (b.connections.turns_to_place ≡ None) → IsEarly b
early_on a b free (inl same) = inl (ap is_put_off same ∙ free)
early_on a b free (inr none) = inr none

pub anew_pulled : (a b : Tunnel) → (b ≡ a) ⊎ PullsWire a b → (b ≡ a) ⊎ (b.connections.turns_to_place ≡ None)
anew_pulled a b (inl same) = inl same
anew_pulled a b (inr x) = inr x.anew

pub anew_passed : (row : Row) (a b : Tunnel) → a.connections.turns_to_place ≡ None → PassesRow row a b → b.connections.turns_to_place ≡ None
anew_passed row a b none x = by x.behind
  where
    by : (b ≡ x.offered) ⊎ (FeedsOn x.offered b × (length (x.offered).engine.incoming ≤ length b.engine.incoming + (row.first - x.count))) → b.connections.turns_to_place ≡ None
    by (inl same) = ap (λ (t : Tunnel). t.connections.turns_to_place) same ∙ (x.offers).place ∙ none
    by (inr (on, few)) = on.anew
