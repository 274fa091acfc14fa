-- What is written to the wire, and what waits then.
use Rattle.std.proofs.Common.{◌≡◌, ◌⊎◌, inl, inr, ℕ, ◌<◌, ◌≤◌, ◌+◌, ◌++◌, zero, suc, List, [], ◌∷◌, length, take, drop, Bool, true, false, ◌||◌, ◌&&◌, refl, sym, ap, ◌∙◌, subst, arith, ◌==◌}
use Rattle.std.specs.Prelude.{nat_le, option_map, is_some}
use Rattle.std.specs.List.{list_all}
use Rattle.std.proofs.lemmas.Bool.Decides.{nat_tests}
use Rattle.std.proofs.lemmas.List.{drop_all}
use Rattle.ymx_machine.specs.shared.Events.{Reply}
use Rattle.ymx_machine.specs.declared.types.Reply.TheVariants as reply
use Rattle.ymx_model.specs.declared.types.Event.TheVariants as event
use Rattle.ymx_model.specs.session.Emissions.{in_turn, is_ready}
use Rattle.ymx_model.specs.session.Histories.{Gives}
use Rattle.ymx_model.specs.session.Events.{Event}
use Rattle.ymx_model.specs.session.Sessions.{Session, is_running}
use Rattle.ymx_law_session.specs.Limits.{IsWithin}
use Rattle.ymx_engine.specs.declared.device.Pushed.{Pushed}
use Rattle.ymx_engine.specs.declared.device.Pushed.TheVariants as pushed
use Rattle.ymx_engine.specs.Devices.{Seen, Marks, IsPushed, pushed_count, may_take_more, is_push_failure}
use Rattle.ymx_engine.specs.Engines.{Engine, KeepsWire}
use Rattle.ymx_engine.specs.Exchanges.{has_bytes}
use Rattle.ymx_engine.specs.Moves.{Moves}
use Rattle.ymx_engine.specs.Runs.{Stays, Rests}
use Rattle.ymx_engine.specs.Served.{Serving}
use Rattle.ymx_engine.specs.Serves.{PutsDue, is_emission}
use Rattle.ymx_engine.specs.Steps.{WritesOnce}
use Rattle.ymx_engine.specs.Tunnels.{Tunnel}
use Rattle.ymx_engine.specs.Turns.{Connection, KeepsConnections}
use Rattle.ymx_engine.specs.Wires.{is_of_flush, has_feed_end, FlushesWire, HandlesOut, GivesOut}
use Rattle.ymx_engine.proofs.Attending.{all_then, writes_then}
use Rattle.ymx_engine.proofs.Carrying.{flushes_handled, handles_out_none, loses_out, pushed_heard_so}
use Rattle.ymx_engine.proofs.Coming.{flush_is_calm}
use Rattle.ymx_engine.proofs.Gaining.{emissions_gain}
use Rattle.ymx_engine.proofs.Queueing.{keeps_same, keeps_then}
use Rattle.ymx_engine.proofs.Running.{SameSeen, moves_same_so, moves_then_so, moves_flushed_so}
use Rattle.ymx_engine.proofs.Steady.{is_steady, steady_all}
use Rattle.ymx_engine.proofs.Tending.{Calms, serving_kept, serving_connections}

seen_connections : (a b : Tunnel) → KeepsConnections a.connections b.connections → SameSeen a b
seen_connections a b x id = ap (option_map (λ (l : Connection). l.seen)) (x.connections id)

-- ---- what is due

emission_flushes : (e : Event) → is_emission e ≡ true → is_of_flush e ≡ true
emission_flushes (event.Call c) h = cc
emission_flushes (event.Feed bytes) h = cc
emission_flushes event.FeedEnd h = cc
emission_flushes (event.Emit room) h = refl

emission_steady : (e : Event) → is_emission e ≡ true → is_steady e ≡ true
emission_steady (event.Call c) h = cc
emission_steady (event.Feed bytes) h = cc
emission_steady event.FeedEnd h = cc
emission_steady (event.Emit room) h = refl

two_of : (a b : Bool) → (a && b) ≡ true → (a ≡ true) × (b ≡ true)
two_of true b h = (refl, h)
two_of false b h = cc

emissions_flush : (es : List (Event × Reply)) → list_all (λ e. is_emission e.0) es ≡ true → list_all (λ e. is_of_flush e.0) es ≡ true
emissions_flush [] h = refl
emissions_flush (e ∷ es) h =
    let two = two_of (is_emission e.0) (list_all (λ x. is_emission x.0) es) h in
    let first = emission_flushes e.0 two.0 in
    let rest = emissions_flush es two.1 in cc

no_end : (e : Event × Reply) (es : List (Event × Reply)) → is_emission e.0 ≡ true → has_feed_end es ≡ false → has_feed_end (e ∷ es) ≡ false
no_end (event.Call c, told) es h x = cc
no_end (event.Feed bytes, told) es h x = cc
no_end (event.FeedEnd, told) es h x = cc
no_end (event.Emit room, told) es h x = x

emissions_end : (es : List (Event × Reply)) → list_all (λ e. is_emission e.0) es ≡ true → has_feed_end es ≡ false
emissions_end [] h = refl
emissions_end (e ∷ es) h = let two = two_of (is_emission e.0) (list_all (λ x. is_emission x.0) es) h in no_end e es two.0 (emissions_end es two.1)

puts_handled : (a b : Engine) → PutsDue a.session b.session a.outgoing b.outgoing → b.incoming ≡ a.incoming → HandlesOut false a b
puts_handled a b x incoming = record {
  events = x.events;
  happen = x.happen;
  own = emissions_flush x.events x.own;
  to_wire = x.to_wire;
  incoming = incoming;
  heard = emissions_end x.events x.own;
}

same_runs : (s t : Session) → t.status ≡ s.status → is_running t.status ≡ false → is_running s.status ≡ false
same_runs s t e h = sym (ap is_running e) ∙ h

-- no stream gains anything, and the session runs on
puts_calm : (s t : Session) (out out_new : List ℕ) → PutsDue s t out out_new → IsWithin s → Calms s t
puts_calm s t out out_new x w =
    let calm = flush_is_calm x.events s t x.happen (emissions_flush x.events x.own) w in
    record { within = calm.within; came = emissions_gain x.events s t x.happen (emissions_flush x.events x.own) x.own w; runs = same_runs s t (steady_all is_emission emission_steady x.events s t x.happen x.own) }

-- ---- one call of the wire

some_taken : (n : ℕ) (xs : List ℕ) → 0 < n → 0 < length xs → has_bytes (take n xs) ≡ true
some_taken zero xs some h = absurd (omega (arith, some))
some_taken (suc n) [] some h = absurd (omega (arith, h))
some_taken (suc n) (x ∷ xs) some h = refl

and_false : (a : Bool) → (a && false) ≡ false
and_false true = refl
and_false false = refl

may_of : (r : Pushed) (bytes : List ℕ) (d e : Seen) → IsPushed r bytes d e → e.marks.may_push ≡ (d.marks.may_push && may_take_more r (length bytes))
may_of r bytes d e x = ap (λ (m : Marks). m.may_push) x.marks

-- it took some, or may take none now
pushed_some : (r : Pushed) (bytes : List ℕ) (d e : Seen) → IsPushed r bytes d e → 0 < length bytes → (has_bytes (take (pushed_count r) bytes) ≡ true) ⊎ (e.marks.may_push ≡ false)
pushed_some (pushed.Took n) bytes d e x some = inl (some_taken n bytes (x.some refl some) some)
pushed_some pushed.NotNow bytes d e x some = inr (may_of pushed.NotNow bytes d e x ∙ and_false d.marks.may_push)
pushed_some pushed.Failed bytes d e x some = inr (may_of pushed.Failed bytes d e x ∙ and_false d.marks.may_push)

all_or_none : (n : ℕ) (bytes : List ℕ) (t may : Bool) → nat_le (length bytes) n ≡ t → may ≡ t → (drop n bytes ≡ []) ⊎ (may ≡ false)
all_or_none n bytes true may h e = let fits : length bytes ≤ n = grind (arith, nat_tests) in inl (drop_all n bytes fits)
all_or_none n bytes false may h e = inr e

may_take : (r : Pushed) (bytes : List ℕ) → (drop (pushed_count r) bytes ≡ []) ⊎ (may_take_more r (length bytes) ≡ false)
may_take (pushed.Took n) bytes = all_or_none n bytes (nat_le (length bytes) n) (nat_le (length bytes) n) refl refl
may_take pushed.NotNow bytes = inr refl
may_take pushed.Failed bytes = inr refl

-- it took all, or may take none now
pushed_all : (r : Pushed) (bytes : List ℕ) (d e : Seen) → IsPushed r bytes d e → (drop (pushed_count r) bytes ≡ []) ⊎ (e.marks.may_push ≡ false)
pushed_all r bytes d e x = by (may_take r bytes)
  where
    by : (drop (pushed_count r) bytes ≡ []) ⊎ (may_take_more r (length bytes) ≡ false) → (drop (pushed_count r) bytes ≡ []) ⊎ (e.marks.may_push ≡ false)
    by (inl none) = inl none
    by (inr off) = inr (may_of r bytes d e x ∙ ap (λ (v : Bool). d.marks.may_push && v) off ∙ and_false d.marks.may_push)

-- the mark goes off, but not on
pushed_on : (r : Pushed) (bytes : List ℕ) (d e : Seen) → IsPushed r bytes d e → e.marks.may_push ≡ true → d.marks.may_push ≡ true
pushed_on r bytes d e x h = (two_of d.marks.may_push (may_take_more r (length bytes)) (sym (may_of r bytes d e x) ∙ h)).0

-- The wire was called with what waited, what it said was heard, and where nothing waits then nobody is held back any more.
pub pushes_once : (r : Pushed) (on : Bool) (a b c d : Tunnel) → GivesOut r a.engine b.engine a.wire b.wire → b.connections ≡ a.connections → HandlesOut (is_push_failure r) b.engine c.engine → c.engine.outgoing ≡ b.engine.outgoing → c.wire ≡ b.wire →
    KeepsConnections b.connections c.connections → (Serving b → Serving c) → d.engine ≡ c.engine → d.wire ≡ c.wire → KeepsConnections c.connections d.connections → (d.engine.outgoing ≡ [] → d.connections.held ≡ []) → on ≡ d.wire.marks.may_push →
    0 < length a.engine.outgoing → a.wire.marks.may_push ≡ true → d.no_memory ≡ a.no_memory → WritesOnce on a d
pushes_once r on a b c d gave still heard waits wire keeps serves engine beside behind free is some may memory =
    let same_wire : d.wire ≡ b.wire = beside ∙ wire in
    let g : GivesOut r a.engine b.engine a.wire d.wire = subst (λ (w : Seen). GivesOut r a.engine b.engine a.wire w) (sym same_wire) gave in
    let h : HandlesOut (is_push_failure r) b.engine d.engine = subst (λ (v : Engine). HandlesOut (is_push_failure r) b.engine v) (sym engine) heard in
    let left : d.engine.outgoing ≡ drop (pushed_count r) a.engine.outgoing = ap (λ (v : Engine). v.outgoing) engine ∙ waits ∙ gave.outgoing in
    let first : KeepsConnections a.connections b.connections = subst (KeepsConnections a.connections) (sym still) (keeps_same a.connections) in
    let all : KeepsConnections a.connections d.connections = keeps_then a.connections b.connections d.connections first (keeps_then b.connections c.connections d.connections keeps behind) in
    let flushed = pushed_heard_so r a.engine b.engine d.engine a.wire d.wire g h in
    let moved = moves_flushed_so a d 1 flushed.0 (seen_connections a d all) in
    let sent : moved.0.sent ≡ take (pushed_count r) a.engine.outgoing = moved.1 ∙ flushed.1 in
    record {
      writes = record {
        moves = moved.0;
        own = ap (list_all (λ (e : Event × Reply). is_of_flush e.0)) moved.2 ∙ flushed.0.own;
        offers = λ m due. by moved.0.sent sent (pushed_some r a.engine.outgoing a.wire d.wire g.pushed some);
        all = λ m. rest left (pushed_all r a.engine.outgoing a.wire d.wire g.pushed);
        releases = λ m none. free none;
      };
      going = λ goes. let now : d.wire.marks.may_push ≡ true = sym is ∙ goes in (may, now, goes_by moved.0.sent sent now (pushed_some r a.engine.outgoing a.wire d.wire g.pushed some));
      connections = all;
      serves = λ s. serving_connections c d (ap (λ (v : Engine). v.session) engine) behind (serves (serving_connections a b gave.session first s));
      memory = memory;
      pull = ap (λ (m : Marks). m.may_pull) g.pushed.marks;
      push = pushed_on r a.engine.outgoing a.wire d.wire g.pushed;
      ended = g.pushed.ended;
      shut = g.pushed.shut;
    }
  where
    by : (sent : List ℕ) → sent ≡ take (pushed_count r) a.engine.outgoing → (has_bytes (take (pushed_count r) a.engine.outgoing) ≡ true) ⊎ (d.wire.marks.may_push ≡ false) → (has_bytes sent ≡ true) ⊎ (d.wire.marks.may_push ≡ false)
    by sent e (inl h) = inl (ap has_bytes e ∙ h)
    by sent e (inr h) = inr h

    goes_by : (sent : List ℕ) → sent ≡ take (pushed_count r) a.engine.outgoing → d.wire.marks.may_push ≡ true → (has_bytes (take (pushed_count r) a.engine.outgoing) ≡ true) ⊎ (d.wire.marks.may_push ≡ false) → has_bytes sent ≡ true
    goes_by sent e now (inl h) = ap has_bytes e ∙ h
    goes_by sent e now (inr h) = let no : true ≡ false = sym now ∙ h in absurd cc

    rest : d.engine.outgoing ≡ drop (pushed_count r) a.engine.outgoing → (drop (pushed_count r) a.engine.outgoing ≡ []) ⊎ (d.wire.marks.may_push ≡ false) → (d.engine.outgoing ≡ []) ⊎ (d.wire.marks.may_push ≡ false)
    rest e (inl h) = inl (e ∙ h)
    rest e (inr h) = inr h

-- ---- what the wire answered

no_failure : (r : Pushed) → ((n : ℕ) × (r ≡ pushed.Took n)) ⊎ (r ≡ pushed.NotNow) → is_push_failure r ≡ false
no_failure r (inl took) = ap is_push_failure took.1
no_failure r (inr not_now) = ap is_push_failure not_now

-- it failed not: nothing is heard
pub hears_none : (r : Pushed) (a : Engine) → ((n : ℕ) × (r ≡ pushed.Took n)) ⊎ (r ≡ pushed.NotNow) → HandlesOut (is_push_failure r) a a
hears_none r a is = subst (λ (v : Bool). HandlesOut v a a) (sym (no_failure r is)) (handles_out_none a)

-- it failed: the session heard of its end
pub hears_lost : (r : Pushed) (a b : Engine) → r ≡ pushed.Failed → Gives in_turn a.session event.FeedEnd reply.Done b.session → KeepsWire a b → HandlesOut (is_push_failure r) a b
hears_lost r a b is heard keeps = subst (λ (v : Bool). HandlesOut v a b) (sym (ap is_push_failure is)) (loses_out a b a.session refl heard keeps.incoming keeps.outgoing)

-- ---- one write

-- the wire may take no bytes
writes_off : (a : Tunnel) → a.wire.marks.may_push ≡ false → WritesOnce false a a
writes_off a off = record {
  writes = record { moves = (moves_same_so a).0; own = ap (list_all (λ (e : Event × Reply). is_of_flush e.0)) (moves_same_so a).1; offers = λ on due. absurd (no on); all = λ on. absurd (no on); releases = λ on none. absurd (no on) };
  going = λ (h : false ≡ true). absurd cc;
  connections = keeps_same a.connections;
  serves = λ s. s;
  pull = refl;
  push = λ h. h;
  ended = refl;
  shut = refl;
  memory = refl;
}
  where
    no : a.wire.marks.may_push ≡ true → ⊥
    no on = let both : true ≡ false = sym on ∙ off in cc

pub may_not : (a b : Tunnel) → a ≡ b → a.wire.marks.may_push ≡ false → WritesOnce false b b
may_not a b e off = writes_off b (sym (ap (λ (t : Tunnel). t.wire.marks.may_push) e) ∙ off)

-- some bytes wait
pub not_empty : (xs ys : List ℕ) (b : Bool) → b ≡ (length xs == 0) → xs ≡ ys → b ≡ false → 0 < length ys
not_empty xs ys b e s h = let n = ap (λ (v : List ℕ). length v) s in grind (arith, nat_tests)

-- what was due waits for the wire, and the connections stay, but for those that are dropped
puts_moves : (a b : Tunnel) → PutsDue a.engine.session b.engine.session a.engine.outgoing b.engine.outgoing → b.engine.incoming ≡ a.engine.incoming → b.wire ≡ a.wire → KeepsConnections a.connections b.connections →
    (m : Moves a b) × (list_all (λ e. is_of_flush e.0) m.events ≡ true)
puts_moves a b x incoming wire keeps =
    let flushes : FlushesWire a.engine b.engine a.wire b.wire 0 = subst (λ (w : Seen). FlushesWire a.engine b.engine a.wire w 0) (sym wire) (flushes_handled a.engine b.engine a.wire 0 (puts_handled a.engine b.engine x incoming)) in
    let moved = moves_flushed_so a b 0 flushes (seen_connections a b keeps) in
    (moved.0, ap (list_all (λ (e : Event × Reply). is_of_flush e.0)) moved.2 ∙ flushes.own)

puts_serves : (a b : Tunnel) → PutsDue a.engine.session b.engine.session a.engine.outgoing b.engine.outgoing → KeepsConnections a.connections b.connections → Serving a → Serving b
puts_serves a b x keeps = serving_kept a b (puts_calm a.engine.session b.engine.session a.engine.outgoing b.engine.outgoing x) keeps

nothing_due : (out out_new : List ℕ) (ready : Bool) → (ready ≡ true → 0 < length out_new) → (0 < length out → 0 < length out_new) → out_new ≡ [] → (has_bytes out || ready) ≡ true → ⊥
nothing_due [] out_new true due more none h = let x = due refl in let y = ap (λ (v : List ℕ). length v) none in omega (arith, x, y)
nothing_due [] out_new false due more none h = cc
nothing_due (b ∷ out) out_new ready due more none h = let x = more (omega arith) in let y = ap (λ (v : List ℕ). length v) none in omega (arith, x, y)

-- nothing waits for the wire and nothing is due: nobody is held back any more
pub writes_none : (a b : Tunnel) → PutsDue a.engine.session b.engine.session a.engine.outgoing b.engine.outgoing → (is_ready a.engine.session ≡ true → 0 < length b.engine.outgoing) → (0 < length a.engine.outgoing → 0 < length b.engine.outgoing) →
    b.engine.outgoing ≡ [] → b.engine.incoming ≡ a.engine.incoming → b.wire ≡ a.wire → KeepsConnections a.connections b.connections → b.connections.held ≡ [] → b.no_memory ≡ a.no_memory → WritesOnce false a b
writes_none a b x due more none incoming wire keeps free memory = record {
  writes = record {
    moves = (puts_moves a b x incoming wire keeps).0;
    own = (puts_moves a b x incoming wire keeps).1;
    offers = λ on h. absurd (nothing_due a.engine.outgoing b.engine.outgoing (is_ready a.engine.session) due more none h);
    all = λ on. inl none;
    releases = λ on out. free;
  };
  going = λ (h : false ≡ true). absurd cc;
  connections = keeps;
  serves = puts_serves a b x keeps;
  pull = ap (λ (w : Seen). w.marks.may_pull) wire;
  push = λ h. sym (ap (λ (w : Seen). w.marks.may_push) wire) ∙ h;
  ended = ap (λ (w : Seen). w.ended) wire;
  shut = ap (λ (w : Seen). w.shut) wire;
  memory = memory;
}

some_behind : (xs ys : List ℕ) → has_bytes ys ≡ true → has_bytes (xs ++ ys) ≡ true
some_behind [] ys h = h
some_behind (x ∷ xs) ys h = refl

some_waits : (xs : List ℕ) → 0 < length xs → (ready : Bool) → (has_bytes xs || ready) ≡ true
some_waits [] some ready = absurd (omega (arith, some))
some_waits (x ∷ xs) some ready = refl

-- what was due waited, and it was written to
pub writes_put : (on : Bool) (a b c : Tunnel) → PutsDue a.engine.session b.engine.session a.engine.outgoing b.engine.outgoing → b.engine.incoming ≡ a.engine.incoming → b.wire ≡ a.wire → b.connections ≡ a.connections → 0 < length b.engine.outgoing → b.no_memory ≡ a.no_memory → WritesOnce on b c → WritesOnce on a c
writes_put on a b c x incoming wire still some memory y =
    let keeps : KeepsConnections a.connections b.connections = subst (KeepsConnections a.connections) (sym still) (keeps_same a.connections) in
    let put = puts_moves a b x incoming wire keeps in
    let both = moves_then_so a b c put.0 y.writes.moves in
    let may : a.wire.marks.may_push ≡ true → b.wire.marks.may_push ≡ true = λ h. ap (λ (w : Seen). w.marks.may_push) wire ∙ h in
    let back : b.wire.marks.may_push ≡ true → a.wire.marks.may_push ≡ true = λ h. sym (ap (λ (w : Seen). w.marks.may_push) wire) ∙ h in
    record {
      writes = record {
        moves = both.0;
        own = all_then is_of_flush put.0.events y.writes.moves.events both.0.events both.3 put.1 y.writes.own;
        offers = λ on due. by put.0.sent both.0.sent both.2 (y.writes.offers (may on) (some_waits b.engine.outgoing some (is_ready b.engine.session)));
        all = λ on. y.writes.all (may on);
        releases = λ on none. y.writes.releases (may on) none;
      };
      going = λ h. let goes = y.going h in (back goes.0, goes.1, ap has_bytes both.2 ∙ some_behind put.0.sent y.writes.moves.sent goes.2);
      connections = keeps_then a.connections b.connections c.connections keeps y.connections;
      serves = λ s. y.serves (puts_serves a b x keeps s);
      pull = y.pull ∙ ap (λ (w : Seen). w.marks.may_pull) wire;
      push = λ h. back (y.push h);
      ended = y.ended ∙ ap (λ (w : Seen). w.ended) wire;
      shut = y.shut ∙ ap (λ (w : Seen). w.shut) wire;
      memory = y.memory ∙ memory;
    }
  where
    by : (before sent : List ℕ) → sent ≡ before ++ y.writes.moves.sent → (has_bytes y.writes.moves.sent ≡ true) ⊎ (c.wire.marks.may_push ≡ false) → (has_bytes sent ≡ true) ⊎ (c.wire.marks.may_push ≡ false)
    by before sent e (inl h) = inl (ap has_bytes e ∙ some_behind before y.writes.moves.sent h)
    by before sent e (inr h) = inr h

-- ---- several writes

pub writes_from : (on : Bool) (a b c : Tunnel) → a ≡ b → WritesOnce on a c → WritesOnce on b c
writes_from on a b c e x = subst (λ (v : Tunnel). WritesOnce on v c) e x

-- no turn yet, or each went on
abbrev pub WritesOn : ℕ → Tunnel → Tunnel → Type 0
WritesOn turn a b = ((turn ≡ 0) × (b ≡ a)) ⊎ WritesOnce true a b

pub writes_on : (turn : ℕ) (on : Bool) (a b c : Tunnel) → WritesOn turn a b → WritesOnce on b c → WritesOnce on a c
writes_on turn on a b c (inl e) y = writes_from on b a c e.1 y
writes_on turn on a b c (inr x) y = writes_then on a b c x y

pub goes_on : (turn : ℕ) (on : Bool) (a b c : Tunnel) → on ≡ true → WritesOn turn a b → WritesOnce on b c → WritesOn (turn + 1) a c
goes_on turn on a b c e x y = inr (writes_on turn true a b c x (subst (λ (v : Bool). WritesOnce v b c) e y))

pub went_on : (turn : ℕ) (a b : Tunnel) → WritesOn turn a b → 0 < turn → WritesOnce true a b
went_on turn a b (inl e) some = let x = e.0 in absurd (omega (arith, x, some))
went_on turn a b (inr x) some = x

pub stays_written : (on : Bool) (a b : Tunnel) → WritesOnce on a b → Stays a b
stays_written on a b x = record { joined = λ id. ap is_some (seen_connections a b x.connections id); ended = x.ended; shut = x.shut }

pub rests_written : (on : Bool) (a b : Tunnel) → WritesOnce on a b → Rests a b
rests_written on a b x = record {
  wire_pull = λ h. sym x.pull ∙ h;
  wire_push = x.push;
  pull = λ id l there may. inr (l, sym (x.connections.connections id) ∙ there, may);
  push = λ id l there may. inr (l, sym (x.connections.connections id) ∙ there, may);
}
