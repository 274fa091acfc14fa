-- What a tunnel does with what its wire gives.
use Rattle.std.proofs.Common.{◌≡◌, ◌⊎◌, inl, inr, ℕ, ◌<◌, ◌≤◌, List, [], ◌∷◌, length, take, drop, Bool, true, false, not, ◌||◌, ◌&&◌, Option, None, Some, refl, sym, ap, ◌∙◌, subst, cond, arith}
use Rattle.std.specs.Prelude.{nat_eq, nat_lt, IsSome, is_some, Contains, option_map}
use Rattle.std.specs.Option.{option_map_or}
use Rattle.std.specs.List.{list_all}
use Rattle.std.proofs.lemmas.Bool.Decides.{nat_tests}
use Rattle.std.proofs.lemmas.List.{length-take-le}
use Rattle.std.proofs.lemmas.Grind.{common_steps}
use Rattle.ymx_machine.specs.declared.types.Fed.{Fed}
use Rattle.ymx_machine.specs.declared.types.Reply.TheVariants as reply
use Rattle.ymx_machine.specs.shared.Events.{Reply}
use Rattle.ymx_model.specs.declared.types.Event.TheVariants as event
use Rattle.ymx_model.specs.session.Emissions.{in_turn}
use Rattle.ymx_model.specs.session.Events.{Event}
use Rattle.ymx_model.specs.session.Feeds.{is_stuck}
use Rattle.ymx_model.specs.session.Histories.{Gives}
use Rattle.ymx_model.specs.session.Sessions.{Session, is_running}
use Rattle.ymx_session.specs.Passing.{passing, FeedsSome}
use Rattle.ymx_session.specs.Touched.{Noted, is_noted, NotesChanges}
use Rattle.ymx_engine.specs.declared.device.Pulled.{Pulled}
use Rattle.ymx_engine.specs.declared.device.Pulled.TheVariants as pulled
use Rattle.ymx_engine.specs.declared.directions.Directions.{Directions}
use Rattle.ymx_engine.specs.Devices.{Seen, Marks, IsPulled, pulled_count, gives, is_end, is_pull_failure, one_read}
use Rattle.ymx_engine.specs.Engines.{Engine, KeepsWire}
use Rattle.ymx_engine.specs.Events.{has_stop}
use Rattle.ymx_engine.specs.Exchanges.{has_bytes}
use Rattle.ymx_engine.specs.Passes.{OffersOnce, is_of_reading}
use Rattle.ymx_engine.specs.Runs.{Runs, Stays, Rests}
use Rattle.ymx_engine.specs.Served.{Serving, GainsNone}
use Rattle.ymx_engine.specs.Steps.{Keeps, ReadsOn, OffersPart, PassesPart, StaysOver}
use Rattle.ymx_engine.specs.Tunnels.{Tunnel}
use Rattle.ymx_engine.specs.Turns.{Connection, Connections, connection_of, Awaits, Extends, SameConnections, SameQueues, Puts, AddsTurn, KeepsConnections}
use Rattle.ymx_engine.specs.Directions.{is_over, is_open, may_push, directions_after}
use Rattle.ymx_engine.specs.Wires.{count_on, HandlesIn, TakesIn, rejections}
use Rattle.ymx_engine.specs.Moves.{Moves}
use Rattle.ymx_engine.specs.Work.{Reads, WasOver, may_have_bytes}
use Rattle.ymx_engine.proofs.Advancing.{feeds_some_so, offers_front}
use Rattle.ymx_engine.proofs.Attending.{attends_on, reads_then, runs_on}
use Rattle.ymx_engine.proofs.Carrying.{pulled_so, handles_none_so, loses_in_so, memory_same}
use Rattle.ymx_engine.proofs.Coming.{happen_within}
use Rattle.ymx_engine.proofs.Entries.{eq_ids, some_is}
use Rattle.ymx_engine.proofs.Filling.{filled_room}
use Rattle.ymx_engine.proofs.Queueing.{adds_behind_same, connection_put_there, puts_then_same, extends_same, extends_added, keeps_counted, keeps_then, others_put}
use Rattle.ymx_engine.proofs.Listing.{reads_reading}
use Rattle.ymx_engine.proofs.Quiet.{both}
use Rattle.ymx_engine.proofs.Running.{SameSeen, moves_same, moves_read_so, moves_handled, moves_passed_so, puts_look}
use Rattle.ymx_engine.proofs.Tending.{serving_fed, serving_alike, serving_connections, serving_with, served_waits, but_of}
use Rattle.ymx_engine.proofs.DirectionsAfter.{to_peer_was, from_peer_was, stop_breaks_to, stop_breaks_from}

-- the device of each is what it was
pub same_seen : (a b : Tunnel) → KeepsConnections a.connections b.connections → SameSeen a b
same_seen a b keeps id = ap (option_map (λ (l : Connection). l.seen)) (keeps.connections id)

-- ---- what waits is fed

pub keeps_fed : (n : Noted) (f : Fed) (a b : Tunnel) (t : Session) (rest : List ℕ) (q : Connections) → FeedsSome a.engine.session a.engine.incoming f t → rest ≡ drop f.taken a.engine.incoming → NotesChanges a.engine.session t n → KeepsConnections a.connections q →
    ((id : ℕ) → is_noted id n ≡ true → IsSome (connection_of id a.connections) → Awaits id q) → b.engine ≡ record { session = t; outgoing = a.engine.outgoing; incoming = rest } → b.wire ≡ a.wire → b.is_wire_over ≡ a.is_wire_over → KeepsConnections q b.connections →
    (is_running b.engine.session.status ≡ false → (id : ℕ) → IsSome (connection_of id b.connections) → Awaits id b.connections) → b.no_memory ≡ count_on a.no_memory f.no_memory → Keeps a b
keeps_fed n f a b t rest q x left notes keeps all engine wire over later stopped memory =
    let connections = keeps_then a.connections q b.connections keeps later in
    let now : Engine = record { session = t; outgoing = a.engine.outgoing; incoming = rest } in
    let handled : (h : HandlesIn false a.engine b.engine) × (rejections h.events ≡ f.no_memory) =
    subst (λ (v : Engine). (h : HandlesIn false a.engine v) × (rejections h.events ≡ f.no_memory)) (sym engine) (feeds_some_so a.engine now f a.engine.session a.engine.incoming refl refl x left refl) in
    let moved = moves_handled a b handled.0 wire (same_seen a b connections) in
    record {
      moves = moved.0;
      own = moved.1;
      wire = wire;
      over = over;
      connections = connections;
      serves = serving_fed n a.engine.incoming f a b t q x notes keeps all (ap (λ (e : Engine). e.session) engine) later stopped;
      memory = memory ∙ ap (λ (v : ℕ). count_on a.no_memory v) (sym (ap rejections moved.2 ∙ handled.1));
    }

none_dropped : (n : ℕ) (xs : List ℕ) → nat_lt n (length xs) ≡ false → drop n xs ≡ []
none_dropped n xs h = grind (arith, common_steps, nat_tests)

is_less : (n m : ℕ) → nat_lt n m ≡ true → n < m
is_less n m h = grind (arith, nat_tests)

-- a feed goes on up to where it stops
pub fed_or_stopped : (n : ℕ) (waits rest : List ℕ) (t : Session) (e : Engine) → rest ≡ drop n waits → (n < length waits → (is_stuck t ≡ true) ⊎ IsSome (passing t)) → e.session ≡ t → e.incoming ≡ rest → (e.incoming ≡ []) ⊎ ((is_stuck e.session ≡ true) ⊎ IsSome (passing e.session))
fed_or_stopped n waits rest t e left stops session incoming = by (nat_lt n (length waits)) refl
  where
    by : (x : Bool) → nat_lt n (length waits) ≡ x → (e.incoming ≡ []) ⊎ ((is_stuck e.session ≡ true) ⊎ IsSome (passing e.session))
    by true x = inr (subst (λ (v : Session). (is_stuck v ≡ true) ⊎ IsSome (passing v)) (sym session) (stops (is_less n (length waits) x)))
    by false x = inl (incoming ∙ left ∙ none_dropped n waits x)

-- ---- the wire is read

some_there : (xs : List ℕ) → 0 < length xs → has_bytes xs ≡ true
some_there [] h = let no : ⊥ = omega arith in absurd no
some_there (x ∷ xs) h = refl

-- what a device gives is some bytes
some_given : (r : Pulled) (buffer : List ℕ) (d e : Seen) → IsPulled r buffer d e → 0 < length buffer → gives r ≡ true → has_bytes (take (pulled_count r) buffer) ≡ true
some_given r buffer d e x room given =
    let some : 0 < pulled_count r = x.some given room in
    let all : length (take (pulled_count r) buffer) ≡ pulled_count r = length-take-le (pulled_count r) buffer x.within in
    some_there (take (pulled_count r) buffer) (omega arith)

-- one that may have more still gave a whole read, unless its end is near
whole_given : (r : Pulled) (buffer : List ℕ) (a b : Tunnel) → IsPulled r buffer a.wire b.wire → one_read ≤ length buffer → may_have_bytes b ≡ true → b.wire.marks.is_closing ≡ false → one_read ≤ length (take (pulled_count r) buffer)
whole_given r buffer a b x room may near =
    let on : b.wire.marks.may_pull ≡ true = (both b.wire.marks.may_pull (not b.is_wire_over) may).0 in
    let all = filled_room r buffer a.wire b.wire x on near in
    let l : length (take (pulled_count r) buffer) ≡ pulled_count r = length-take-le (pulled_count r) buffer x.within in
    omega (arith, all, l, room)

-- the wire was called for bytes, and what it said was heard
reads_pulled : (r : Pulled) (buffer : List ℕ) (a m b : Tunnel) → a.engine.incoming ≡ [] → IsPulled r buffer a.wire m.wire → one_read ≤ length buffer → m.engine.session ≡ a.engine.session → m.engine.outgoing ≡ a.engine.outgoing →
    m.engine.incoming ≡ take (pulled_count r) buffer → (h : HandlesIn (is_end r || is_pull_failure r) m.engine b.engine) × (rejections h.events ≡ 0) → b.no_memory ≡ a.no_memory → b.wire ≡ m.wire → SameSeen a b → (gives r ≡ false → may_have_bytes b ≡ false) →
    (b.is_wire_over ≡ true → (a.is_wire_over ≡ true) ⊎ (is_running b.engine.session.status ≡ false)) → Reads a b
reads_pulled r buffer a m b none x room session outgoing incoming heard memory wire same off over =
    let y : IsPulled r buffer a.wire b.wire = subst (IsPulled r buffer a.wire) (sym wire) x in
    let t : TakesIn r a.engine m.engine a.wire b.wire = record { buffer = buffer; pulled = y; incoming = incoming; outgoing = outgoing; session = session } in
    let moved = pulled_so r a.engine m.engine b.engine a.wire b.wire none t heard.0 in
    let moves = moves_read_so a b 1 moved.0 same in
    record { moves = moves.0; own = ap (list_all (λ (e : Event × Reply). is_of_reading e.0)) moves.2 ∙ reads_reading (moved.0).events (moved.0).own; asks = λ fed may. by (moves.0).came (moves.1 ∙ moved.1) (gives r) refl; fills = λ fed may on near. let whole = whole_given r buffer a b y room on near in let came = ap length (moves.1 ∙ moved.1) in omega (arith, whole, came); over = λ h. was moves.0 (over h); memory = memory_same a.no_memory b.no_memory (moves.0).events memory (ap rejections (moves.2 ∙ moved.2) ∙ heard.1) }
  where
    was : Moves a b → (a.is_wire_over ≡ true) ⊎ (is_running b.engine.session.status ≡ false) → (a.is_wire_over ≡ true) ⊎ WasOver a b
    was to (inl h) = inl h
    was to (inr lost) = inr (record { between = b; before = to; over = lost; behind = moves_same b })

    by : (came : List ℕ) → came ≡ take (pulled_count r) buffer → (g : Bool) → gives r ≡ g → (has_bytes came ≡ true) ⊎ (may_have_bytes b ≡ false)
    by came is true g = inl (ap has_bytes is ∙ some_given r buffer a.wire m.wire x (omega (arith, room)) g)
    by came is false g = inr (off g)

and_off : (x : Bool) → (x && false) ≡ false
and_off true = refl
and_off false = refl

-- one that gave none may have none now
pulled_off : (r : Pulled) (buffer : List ℕ) (d e : Seen) → IsPulled r buffer d e → gives r ≡ false → e.marks.may_pull ≡ false
pulled_off (pulled.Gave n) buffer d e x h = let no : ⊥ = cc in absurd no
pulled_off pulled.NotNow buffer d e x h = ap (λ (m : Marks). m.may_pull) x.marks ∙ and_off d.marks.may_pull
pulled_off pulled.Ended buffer d e x h = ap (λ (m : Marks). m.may_pull) x.marks ∙ and_off d.marks.may_pull
pulled_off pulled.Failed buffer d e x h = ap (λ (m : Marks). m.may_pull) x.marks ∙ and_off d.marks.may_pull

pub none_to_read : (t : Tunnel) → t.wire.marks.may_pull ≡ false → may_have_bytes t ≡ false
none_to_read t h = rw h refl

pub over_to_read : (t : Tunnel) → t.is_wire_over ≡ true → may_have_bytes t ≡ false
over_to_read t h = rw h (and_off t.wire.marks.may_pull)

goes_on : (r : Pulled) → ((n : ℕ) × (r ≡ pulled.Gave n)) ⊎ (r ≡ pulled.NotNow) → (is_end r || is_pull_failure r) ≡ false
goes_on r (inl (n, e)) = rw e refl
goes_on r (inr e) = rw e refl

ends : (r : Pulled) → (r ≡ pulled.Ended) ⊎ (r ≡ pulled.Failed) → (is_end r || is_pull_failure r) ≡ true
ends r (inl e) = rw e refl
ends r (inr e) = rw e refl

counted : (a b : Connections) → b ≡ record a { turns_to_place = None } → KeepsConnections a b
counted a b e = subst (KeepsConnections a) (sym e) (keeps_counted a None)

runs_gave : (a b : Tunnel) → Reads a b → b.engine.session ≡ a.engine.session → b.connections ≡ record a.connections { turns_to_place = None } → Reads a b × Runs a b
runs_gave a b x session connections = let kept = counted a.connections b.connections connections in (x, runs_on a b x.moves (serving_connections a b session kept) kept.queues)

rests_pulled : (r : Pulled) (buffer : List ℕ) (a b : Tunnel) → IsPulled r buffer a.wire b.wire → SameConnections a.connections b.connections → Rests a b
rests_pulled r buffer a b x same = record {
  wire_pull = λ h. (both a.wire.marks.may_pull _ (sym (ap (λ (m : Marks). m.may_pull) x.marks) ∙ h)).0;
  wire_push = λ h. sym (ap (λ (m : Marks). m.may_push) x.marks) ∙ h;
  pull = λ id l there may. inr (l, sym (same id) ∙ there, may);
  push = λ id l there may. inr (l, sym (same id) ∙ there, may);
}

-- it gave some, or has none yet
pub reads_gave : (r : Pulled) (buffer : List ℕ) (a b : Tunnel) → a.engine.incoming ≡ [] → IsPulled r buffer a.wire b.wire → one_read ≤ length buffer → b.engine.session ≡ a.engine.session → b.engine.outgoing ≡ a.engine.outgoing →
    b.engine.incoming ≡ take (pulled_count r) buffer → ((n : ℕ) × (r ≡ pulled.Gave n)) ⊎ (r ≡ pulled.NotNow) → b.connections ≡ record a.connections { turns_to_place = None } → b.no_memory ≡ a.no_memory → b.is_wire_over ≡ a.is_wire_over → Reads a b × Runs a b
reads_gave r buffer a b none x room session outgoing incoming is connections memory over =
    runs_gave a b (reads_pulled r buffer a b b none x room session outgoing incoming (subst (λ (v : Bool). (h : HandlesIn v b.engine b.engine) × (rejections h.events ≡ 0)) (sym (goes_on r is)) (handles_none_so b.engine)) memory refl
    (λ id. ap (λ (v : Connections). option_map (λ (l : Connection). l.seen) (connection_of id v)) connections) (λ h. none_to_read b (pulled_off r buffer a.wire b.wire x h)) (λ h. inl (sym over ∙ h))) session connections

-- it ended or failed, and the session heard of it
pub reads_lost : (r : Pulled) (buffer : List ℕ) (a m b : Tunnel) → a.engine.incoming ≡ [] → IsPulled r buffer a.wire m.wire → one_read ≤ length buffer → m.engine.session ≡ a.engine.session → m.engine.outgoing ≡ a.engine.outgoing →
    m.engine.incoming ≡ take (pulled_count r) buffer → (r ≡ pulled.Ended) ⊎ (r ≡ pulled.Failed) → m.connections ≡ a.connections → b.wire ≡ m.wire → b.is_wire_over ≡ true → Gives in_turn m.engine.session event.FeedEnd reply.Done b.engine.session → KeepsWire m.engine b.engine →
    KeepsConnections m.connections b.connections → (Serving m → Serving b) → b.no_memory ≡ a.no_memory → is_running b.engine.session.status ≡ false → Reads a b × (Runs a b × Rests a b)
reads_lost r buffer a m b none x room session outgoing incoming is connections wire over g keeps later serves memory lost =
    let heard = loses_in_so m.engine b.engine m.engine.session refl g keeps.incoming keeps.outgoing in
    let reads = reads_pulled r buffer a m b none x room session outgoing incoming (subst (λ (v : Bool). (h : HandlesIn v m.engine b.engine) × (rejections h.events ≡ 0)) (sym (ends r is)) heard) memory wire (λ id. same_seen m b later id ∙ ap (λ (v : Connections). option_map (λ (l : Connection). l.seen) (connection_of id v)) connections) (λ h. over_to_read b over) (λ h. inr lost) in
    let kept : KeepsConnections a.connections b.connections = subst (λ (v : Connections). KeepsConnections v b.connections) connections later in (
      reads,
      (runs_on a b reads.moves (λ h. serves (serving_alike a m session connections h)) kept.queues, rests_pulled r buffer a b (subst (IsPulled r buffer a.wire) (sym wire) x) kept.connections),
    )

-- then it is counted anew for how many turns the next frame waits
pub reads_anew : (a b c : Tunnel) → Reads a b → Keeps b c → Reads a c
reads_anew a b c x k = reads_then a b c x k.moves k.own k.wire k.over k.memory

-- it was not called
pub reads_none : (a : Tunnel) → (a.engine.incoming ≡ [] → may_have_bytes a ≡ true → ⊥) → Reads a a
reads_none a h =
    let none = handles_none_so a.engine in
    let moved = moves_handled a a none.0 refl (λ id. refl) in
    record { moves = moved.0; own = moved.1; asks = λ fed may. absurd (h fed may); fills = λ fed may on near. absurd (h fed may); over = λ h. inl h; memory = memory_same a.no_memory a.no_memory (moved.0).events refl (ap rejections moved.2 ∙ none.1) }

pub reads_from : (a b c : Tunnel) → a ≡ b → Reads a c → Reads b c
reads_from a b c e x = subst (λ (v : Tunnel). Reads v c) e x

-- ---- connections that are over

-- neither way is open
over_of : (x y : Bool) → (x ≡ true → ⊥) → (y ≡ true → ⊥) → (not x && not y) ≡ true
over_of true y p q = absurd (p refl)
over_of false true p q = absurd (q refl)
over_of false false p q = refl

not_first : (x y : Bool) → (not x && not y) ≡ true → x ≡ true → ⊥
not_first true y h k = cc
not_first false y h k = cc

not_second : (x y : Bool) → (not x && not y) ≡ true → y ≡ true → ⊥
not_second true y h k = cc
not_second false true h k = cc
not_second false false h k = cc

pub over_stays : (id : ℕ) (es : List (Event × Reply)) (w : Directions) → is_over w ≡ true → is_over (directions_after id es w) ≡ true
over_stays id es w h =
    over_of (is_open (directions_after id es w).to_peer) (is_open (directions_after id es w).from_peer) (λ k. not_first (is_open w.to_peer) (is_open w.from_peer) h (to_peer_was id es w k)) (λ k. not_second (is_open w.to_peer) (is_open w.from_peer) h (from_peer_was id es w k))

pub stop_is_over : (id : ℕ) (es : List (Event × Reply)) (w : Directions) → has_stop id es ≡ true → is_over (directions_after id es w) ≡ true
stop_is_over id es w h = over_of (is_open (directions_after id es w).to_peer) (is_open (directions_after id es w).from_peer) (stop_breaks_to id es w h) (stop_breaks_from id es w h)

pub closed_same : (a b : Connections) → SameConnections a b → StaysOver a b
closed_same a b same id now there = (now, sym (same id) ∙ there, λ h. h)

pub closed_put : (id : ℕ) (was now : Connection) (a b : Connections) → connection_of id a ≡ Some was → Puts id (Some now) a b → (is_over was.directions ≡ true → is_over now.directions ≡ true) → StaysOver a b
closed_put id was now a b at puts on other l there = by (nat_eq id other) refl
  where
    by : (t : Bool) → nat_eq id other ≡ t → (w : Connection) × (connection_of other a ≡ Some w) × (is_over w.directions ≡ true → is_over l.directions ≡ true)
    by true t =
        let same : now ≡ l = some_is (sym (puts other ∙ ap (λ (v : Bool). cond v (Some now) (connection_of other a)) t) ∙ there) in
        (was, subst (λ (n : ℕ). connection_of n a ≡ Some was) (sym (eq_ids id other t)) at, λ h. subst (λ (v : Connection). is_over v.directions ≡ true) same (on h))
    by false t = (l, sym (puts other ∙ ap (λ (v : Bool). cond v (Some now) (connection_of other a)) t) ∙ there, λ h. h)

-- ---- marks that don't go on

-- this mark went on at no connection's device, unless it is over
abbrev pub MarkRests : (Marks → Bool) → Connections → Connections → Type 0
MarkRests mark a b = (id : ℕ) (l : Connection) → connection_of id b ≡ Some l → mark l.seen.marks ≡ true → (is_over l.directions ≡ true) ⊎ ((was : Connection) × (connection_of id a ≡ Some was) × (mark was.seen.marks ≡ true))

mark_then : (mark : Marks → Bool) (a b c : Connections) → MarkRests mark a b → MarkRests mark b c → StaysOver b c → MarkRests mark a c
mark_then mark a b c x y over id l there may = on (y id l there may)
  where
    back : (was : Connection) → connection_of id b ≡ Some was → (is_over was.directions ≡ true) ⊎ ((w : Connection) × (connection_of id a ≡ Some w) × (mark w.seen.marks ≡ true)) → (is_over l.directions ≡ true) ⊎ ((w : Connection) × (connection_of id a ≡ Some w) × (mark w.seen.marks ≡ true))
    back was at (inl h) =
        let p = over id l there in
        let same : was ≡ p.0 = some_is (sym at ∙ p.1) in inl (p.2 (subst (λ (v : Connection). is_over v.directions ≡ true) same h))
    back was at (inr h) = inr h

    on : (is_over l.directions ≡ true) ⊎ ((w : Connection) × (connection_of id b ≡ Some w) × (mark w.seen.marks ≡ true)) → (is_over l.directions ≡ true) ⊎ ((w : Connection) × (connection_of id a ≡ Some w) × (mark w.seen.marks ≡ true))
    on (inl h) = inl h
    on (inr (was, at, m)) = back was at (x id was at m)

mark_put : (mark : Marks → Bool) (id : ℕ) (was now : Connection) (a b : Connections) → connection_of id a ≡ Some was → Puts id (Some now) a b → (mark now.seen.marks ≡ true → (is_over now.directions ≡ true) ⊎ (mark was.seen.marks ≡ true)) → MarkRests mark a b
mark_put mark id was now a b at puts on other l there may = by (nat_eq id other) refl
  where
    own : (same : now ≡ l) → connection_of other a ≡ Some was → (is_over now.directions ≡ true) ⊎ (mark was.seen.marks ≡ true) → (is_over l.directions ≡ true) ⊎ ((w : Connection) × (connection_of other a ≡ Some w) × (mark w.seen.marks ≡ true))
    own same here (inl h) = inl (subst (λ (v : Connection). is_over v.directions ≡ true) same h)
    own same here (inr m) = inr (was, here, m)

    by : (t : Bool) → nat_eq id other ≡ t → (is_over l.directions ≡ true) ⊎ ((w : Connection) × (connection_of other a ≡ Some w) × (mark w.seen.marks ≡ true))
    by true t =
        let same : now ≡ l = some_is (sym (puts other ∙ ap (λ (v : Bool). cond v (Some now) (connection_of other a)) t) ∙ there) in
        own same (subst (λ (n : ℕ). connection_of n a ≡ Some was) (sym (eq_ids id other t)) at) (on (subst (λ (v : Connection). mark v.seen.marks ≡ true) (sym same) may))
    by false t = inr (l, sym (puts other ∙ ap (λ (v : Bool). cond v (Some now) (connection_of other a)) t) ∙ there, may)

pub rests_kept : (a b : Tunnel) → b.wire ≡ a.wire → SameConnections a.connections b.connections → Rests a b
rests_kept a b wire same = record {
  wire_pull = λ h. sym (ap (λ (w : Seen). w.marks.may_pull) wire) ∙ h;
  wire_push = λ h. sym (ap (λ (w : Seen). w.marks.may_push) wire) ∙ h;
  pull = λ id l there may. inr (l, sym (same id) ∙ there, may);
  push = λ id l there may. inr (l, sym (same id) ∙ there, may);
}

pub rests_then : (a b c : Tunnel) → Rests a b → Rests b c → StaysOver b.connections c.connections → Rests a c
rests_then a b c x y over = record {
  wire_pull = λ h. x.wire_pull (y.wire_pull h);
  wire_push = λ h. x.wire_push (y.wire_push h);
  pull = mark_then (λ (m : Marks). m.may_pull) a.connections b.connections c.connections x.pull y.pull over;
  push = mark_then (λ (m : Marks). m.may_push) a.connections b.connections c.connections x.push y.push over;
}

-- after it the wire and the connections were left alone
pub rests_on : (a b c : Tunnel) → Rests a b → c.wire ≡ b.wire → SameConnections b.connections c.connections → Rests a c
rests_on a b c x wire same = rests_then a b c x (rests_kept b c wire same) (closed_same b.connections c.connections same)

-- they were, and then one was passed on to
pub rests_past : (a b c d : Tunnel) → Rests a b → c.wire ≡ b.wire → SameConnections b.connections c.connections → Rests c d → StaysOver c.connections d.connections → Rests a d
rests_past a b c d x wire same y over = rests_then a c d (rests_on a b c x wire same) y over

pub rests_from : (a b c : Tunnel) → a ≡ b → Rests a c → Rests b c
rests_from a b c e x = subst (λ (v : Tunnel). Rests v c) e x

pub stays_kept : (a b : Tunnel) → b.wire ≡ a.wire → SameConnections a.connections b.connections → Stays a b
stays_kept a b wire same = record { joined = λ id. ap (λ (o : Option Connection). is_some (option_map (λ l. l.seen) o)) (same id); ended = ap (λ (w : Seen). w.ended) wire; shut = ap (λ (w : Seen). w.shut) wire }

pub stays_then : (a b c : Tunnel) → Stays a b → Stays b c → Stays a c
stays_then a b c x y = record { joined = λ id. y.joined id ∙ x.joined id; ended = y.ended ∙ x.ended; shut = y.shut ∙ x.shut }

-- ---- payload is offered to a device

pub offers_part : (id count : ℕ) (waits : List ℕ) (s t : Session) (old before new : Connections) (x was now : Connection) → before ≡ old → connection_of id before ≡ Some x → Puts id (Some now) before new → OffersOnce id waits count s t x.seen now.seen x.directions now.directions → connection_of id old ≡ Some was →
    OffersPart id was waits s t old new count
offers_part id count waits s t old before new x was now at there puts once is =
    let same : x ≡ was = some_is (sym there ∙ ap (connection_of id) at ∙ is) in
    subst (λ (v : Connection). OffersPart id v waits s t old new count) same (subst (λ (o : Connections). OffersPart id x waits s t o new count) at (record { now = now; connections = puts; offered = once }))

-- the connection is there, and its device may take bytes
pub passes_part : (id count : ℕ) (waits : List ℕ) (s t : Session) (a m b : Connections) → option_map_or (λ l. may_push l.directions l.seen.marks) (connection_of id a) false ≡ true → ((was : Connection) → connection_of id a ≡ Some was → OffersPart id was waits s t a m count) →
    SameQueues a m → SameConnections m b → AddsTurn id m b → (IsSome (connection_of id m) → Awaits id b) → PassesPart id waits s t a b count
passes_part id count waits s t a m b may offers queues same turn awaits = by (connection_of id a) refl
  where
    by : (o : Option Connection) → connection_of id a ≡ o → PassesPart id waits s t a b count
    by None at = let no : false ≡ true = sym (ap (λ (o : Option Connection). option_map_or (λ l. may_push l.directions l.seen.marks) o false) at) ∙ may in absurd cc
    by (Some was) at =
        let x = offers was at in
        inl (was, at, record { now = x.now; connections = puts_then_same id (Some x.now) a m b x.connections same; offered = x.offered }, adds_behind_same id a m b queues turn, awaits (connection_put_there id x.now a m x.connections))

stopped_or : (id : ℕ) (es : List (Event × Reply)) (w now : Directions) (mark : Bool) → now ≡ directions_after id es w → (mark ≡ true) ⊎ (has_stop id es ≡ true) → (is_over now ≡ true) ⊎ (mark ≡ true)
stopped_or id es w now mark is (inl h) = inr h
stopped_or id es w now mark is (inr h) = inl (ap is_over is ∙ stop_is_over id es w h)

drop_none : (n : ℕ) (xs ys : List ℕ) → n ≡ 0 → ys ≡ drop n xs → ys ≡ xs
drop_none n xs ys e h = grind (arith, common_steps)

-- nothing was offered
still_there : (a b : Tunnel) → b.connections ≡ a.connections → b.engine.session ≡ a.engine.session → b.engine.outgoing ≡ a.engine.outgoing → b.engine.incoming ≡ a.engine.incoming → b.wire ≡ a.wire → b.no_memory ≡ a.no_memory → ReadsOn a b
still_there a b connections session outgoing incoming wire memory =
    let handled : HandlesIn false a.engine b.engine = record { events = []; happen = session; own = refl; fronts = tt; from_wire = sym incoming; outgoing = outgoing; heard = refl } in
    let moved = moves_handled a b handled wire (λ id. ap (λ (v : Connections). option_map (λ (l : Connection). l.seen) (connection_of id v)) connections) in
    record { runs = record { moves = moved.0; attends = attends_on a b (serving_alike a b session connections) (subst (Extends a.connections) (sym connections) (extends_same a.connections)) }; own = moved.1; memory = memory_same a.no_memory b.no_memory (moved.0).events memory (ap rejections moved.2) }

offered_runs : (id count : ℕ) (waits : List ℕ) (a b : Tunnel) (was : Connection) → waits ≡ a.engine.incoming → connection_of id a.connections ≡ Some was → (x : OffersPart id was waits a.engine.session b.engine.session a.connections b.connections count) → AddsTurn id a.connections b.connections → Awaits id b.connections →
    ((other : ℕ) → nat_eq id other ≡ false → GainsNone other a.engine.session b.engine.session) → b.engine.session.status ≡ a.engine.session.status → b.engine.incoming ≡ drop count a.engine.incoming → b.engine.outgoing ≡ a.engine.outgoing → b.wire ≡ a.wire → b.no_memory ≡ a.no_memory → ReadsOn a b
offered_runs id count waits a b was is there x turn awaits others status incoming outgoing wire memory =
    let passed = offers_front id count waits a.engine b.engine a.engine.session was.seen x.now.seen was.directions x.now.directions refl is x.offered incoming outgoing in
    let grown = extends_added id a.connections b.connections turn in
    let moved = moves_passed_so a b id was.seen x.now.seen 2 was.directions x.now.directions passed wire (ap (option_map (λ (l : Connection). l.seen)) there) (λ other. puts_look id other (Some x.now) a.connections b.connections x.connections) in
    let attends = attends_on a b
    (λ h. serving_with id a b (λ w. record { within = happen_within (x.offered).events a.engine.session b.engine.session (x.offered).happen w; came = others; runs = λ over. sym (ap is_running status) ∙ over })
    (others_put id (Some x.now) a.connections b.connections x.connections grown turn.missed (λ other held. subst (λ (v : List ℕ). Contains v other) (sym turn.held) held)) (λ w. served_waits id b awaits) (but_of id a h)) grown in
    record { runs = record { moves = moved.0; attends = attends }; own = moved.1; memory = memory_same a.no_memory b.no_memory (moved.0).events memory (ap rejections moved.2 ∙ passed.starves) }

pub runs_offered : (id count : ℕ) (waits : List ℕ) (a b : Tunnel) → waits ≡ a.engine.incoming → PassesPart id waits a.engine.session b.engine.session a.connections b.connections count →
    ((other : ℕ) → nat_eq id other ≡ false → GainsNone other a.engine.session b.engine.session) → b.engine.session.status ≡ a.engine.session.status → b.engine.incoming ≡ drop count a.engine.incoming → b.engine.outgoing ≡ a.engine.outgoing → b.wire ≡ a.wire → b.no_memory ≡ a.no_memory → ReadsOn a b
runs_offered id count waits a b is (inl (was, there, x, turn, awaits)) others status incoming outgoing wire memory = offered_runs id count waits a b was is there x turn awaits others status incoming outgoing wire memory
runs_offered id count waits a b is (inr (connections, session, none)) others status incoming outgoing wire memory = still_there a b connections session outgoing (drop_none count a.engine.incoming b.engine.incoming none incoming) wire memory

pub rests_offered : (id count : ℕ) (waits : List ℕ) (s t : Session) (a b : Tunnel) → PassesPart id waits s t a.connections b.connections count → b.wire ≡ a.wire → Rests a b
rests_offered id count waits s t a b (inl (was, there, x, turn, awaits)) wire = record {
  wire_pull = λ h. sym (ap (λ (w : Seen). w.marks.may_pull) wire) ∙ h;
  wire_push = λ h. sym (ap (λ (w : Seen). w.marks.may_push) wire) ∙ h;
  pull = mark_put (λ (m : Marks). m.may_pull) id was x.now a.connections b.connections there x.connections (λ h. stopped_or id (x.offered).events was.directions x.now.directions was.seen.marks.may_pull (x.offered).directions ((x.offered).pull_on h));
  push = mark_put (λ (m : Marks). m.may_push) id was x.now a.connections b.connections there x.connections (λ h. stopped_or id (x.offered).events was.directions x.now.directions was.seen.marks.may_push (x.offered).directions ((x.offered).push_on h));
}
rests_offered id count waits s t a b (inr (connections, session, none)) wire = rests_kept a b wire (λ other. ap (connection_of other) connections)

pub closed_offered : (id count : ℕ) (waits : List ℕ) (s t : Session) (a b : Connections) → PassesPart id waits s t a b count → StaysOver a b
closed_offered id count waits s t a b (inl (was, there, x, turn, awaits)) = closed_put id was x.now a b there x.connections (λ h. ap is_over (x.offered).directions ∙ over_stays id (x.offered).events was.directions h)
closed_offered id count waits s t a b (inr (connections, session, none)) = closed_same a b (λ other. ap (connection_of other) connections)
