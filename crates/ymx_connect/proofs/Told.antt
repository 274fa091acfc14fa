-- What stands in the history that callers of a session have seen.
use Rattle.std.proofs.Common.{◌≡◌, ℕ, List, [], ◌∷◌, ◌++◌, true, false, zero, suc, ◌+◌, Option, Some, None, Ok, refl, sym, ap, subst, ◌∙◌, inl, inr, arith, append_assoc, append-nil}
use mathlib.Core.List.{IsPrefix}
use Rattle.ymx_machine.specs.declared.types.Reply.TheVariants as reply
use Rattle.ymx_model.specs.declared.types.Role.{Role}
use Rattle.ymx_model.specs.declared.types.Config.{Config}
use Rattle.ymx_model.specs.declared.types.Entry.{Entry}
use Rattle.ymx_seats.specs.Views.{SeatView, IsWitnessed}
use Rattle.ymx_hub.specs.Books.{Books, Grows, Extends, Spends, Closes, to_finish}
use Rattle.ymx_hub.specs.Halves.{HalfView, OpensHalves, AcceptsHalves}
use Rattle.ymx_seats.specs.declared.plays.Right.{Right}
use Rattle.ymx_hub.specs.Rights.{MayWrite, MayRead, SaysSole, WritesAlone, ReadsAlone}
use Rattle.ymx_hub.specs.Shown.{HasGrown, IsShown, BooksShown}
use Rattle.ymx_hub.proofs.Rights.{writes_alone, reads_alone}
use Rattle.ymx_hub.specs.Turns.{WriteTurns}
use Rattle.ymx_connect.specs.Streams.{ReadsUpTo, Copies}
use Rattle.ymx_connect.specs.Told.{SeesLast, FinishesHalf, ClosesHalf, StandsIn, Exchanges, Echoes, EchoesNext, EchoesMany, HasEchoed}

pub stands : (n : ℕ) (v w : Option (List Entry)) → HasGrown n v w → StandsIn v w
stands n None None g = tt
stands n None (Some w) g = absurd g
stands n (Some v) None g = absurd g
stands n (Some v) (Some w) g = g.0

pub stands_on : (v w x : Option (List Entry)) → StandsIn v w → StandsIn w x → StandsIn v x
stands_on None None x g h = h
stands_on None (Some w) x g h = absurd g
stands_on (Some v) None x g h = absurd g
stands_on (Some v) (Some w) None g h = absurd h
stands_on (Some v) (Some w) (Some x) g h = (g.0 ++ h.0, sym (append_assoc v g.0 h.0) ∙ ap (λ es. es ++ h.0) g.1 ∙ h.1)

pub stands_itself : (v : Option (List Entry)) → StandsIn v v
stands_itself None = tt
stands_itself (Some es) = ([], append-nil es)

stands_at : (v w x : Option (List Entry)) → StandsIn v w → x ≡ w → StandsIn v x
stands_at v w x g e = subst (StandsIn v) (sym e) g

-- what a seat had seen stands in what it has seen after its own entries
grows_stands : (n : ℕ) (v added w : List Entry) → Grows n v added w → IsPrefix v w
grows_stands n v [] w g = ([], append-nil v ∙ sym g)
grows_stands n v (e ∷ es) w g =
    let on : IsPrefix ((v ++ g.0) ++ e ∷ []) w = grows_stands n ((v ++ g.0) ++ e ∷ []) es w g.3 in
    (g.0 ++ (e ∷ on.0), sym (append_assoc v g.0 (e ∷ on.0)) ∙ sym (append_assoc (v ++ g.0) (e ∷ []) on.0) ∙ on.1)

pub extends_stands : (n : ℕ) (v w : Option (List Entry)) (Such : List Entry → Type 0) → Extends n v w Such → StandsIn v w
extends_stands n None None Such e = tt
extends_stands n None (Some w) Such e = absurd e
extends_stands n (Some v) None Such e = absurd e
extends_stands n (Some v) (Some w) Such e = grows_stands n v e.0 w e.2

module _ (old new half : SeatView) (Such : List Entry → Type 0) (sees : SeesLast old new half Such) where
  -- what a half had seen before its last call stands in what the caller has seen then
  half_stands : StandsIn half.seen new.seen
  half_stands =
      let booked : BooksShown false half sees.last Such = sees.booked in
      stands_at half.seen sees.last.seen new.seen
      (stands_on half.seen booked.between.seen sees.last.seen
      (extends_stands half.number half.seen booked.between.seen Such booked.booked.extends)
      (stands booked.between.number booked.between.seen sees.last.seen booked.shown.grown))
      sees.seen

  pub caller_stands : StandsIn old.seen new.seen
  caller_stands = stands old.number old.seen new.seen sees.shown.grown

-- the caller meets the seat of a half after its last call
pub sees_last : (old new half last shown : SeatView) (Such : List Entry → Type 0) → Books false half last Such → IsShown last shown → IsShown old new → new.seen ≡ shown.seen → SeesLast old new half Such
sees_last old new half last shown Such booked met mine same = record { last = shown; booked = record { between = last; booked = booked; shown = met }; shown = mine; seen = same }

-- nobody else has called the writing half of a stream, whose caller was shown the history after its last call
pub last_alone : (role : Role) (config : Config) (id number n : ℕ) (right last : Right) (seen met : Option (List Entry)) → MayWrite right id → last ≡ right → n ≡ number → SaysSole last n met → seen ≡ met → IsWitnessed true role config seen → WritesAlone id number seen
last_alone role config id number n right last seen met may same by sole is history =
    writes_alone role config id number right seen may (subst (λ (x : Right × ℕ × Option (List Entry)). SaysSole x.0 x.1 x.2) (λ i. (same i, by i, sym is i)) sole) history

-- nobody else has read a stream, whose reader was shown the history after its last call
pub last_reads_alone : (role : Role) (config : Config) (id number n : ℕ) (right last : Right) (seen met : Option (List Entry)) → MayRead right id → last ≡ right → n ≡ number → SaysSole last n met → seen ≡ met → IsWitnessed true role config seen → ReadsAlone id number seen
last_reads_alone role config id number n right last seen met may same by sole is history =
    reads_alone role config id number right seen may (subst (λ (x : Right × ℕ × Option (List Entry)). SaysSole x.0 x.1 x.2) (λ i. (same i, by i, sym is i)) sole) history

-- A stream that was opened, written and finished, read up to the end and closed. `writer` and `reader` are its halves as they made their
-- last calls.
pub exchanges : (text bytes : List ℕ) (caller opened finished closed : SeatView) (made : HalfView × HalfView) (writer reader : HalfView) (u : Unit {0}) →
    Books false caller opened (OpensHalves caller.number (Ok made)) → FinishesHalf opened finished writer → ClosesHalf finished closed reader →
    Books false made.0.seat writer.seat (WriteTurns made.0.id text made.0.seat.number (Ok u)) → writer.id ≡ made.0.id →
    Books false made.1.seat reader.seat (ReadsUpTo reply.ReadEnd made.1.id made.1.seat.number bytes) → reader.id ≡ made.1.id →
    Exchanges text bytes closed.seen
exchanges text bytes caller opened finished closed made writer reader u opens finishes closes writes here reads there = record {
  caller = caller;
  opened = opened;
  writer = made.0;
  reader = made.1;
  wrote = writer.seat;
  finished = finished;
  read = reader.seat;
  closed = closed;
  opens = opens;
  writes = writes;
  finishes = subst (λ (it : ℕ). SeesLast opened finished writer.seat (Spends (to_finish it) it writer.seat.number (Ok tt))) here finishes.sees;
  writes_alone = subst (λ (x : ℕ × ℕ). WritesAlone x.0 x.1 finished.seen) (λ i. (here i, writes.number i)) finishes.alone;
  reads = reads;
  closes = subst (λ (it : ℕ). SeesLast finished closed reader.seat (Closes it reader.seat.number (Ok tt))) there closes.sees;
  reads_alone = subst (λ (x : ℕ × ℕ). ReadsAlone x.0 x.1 closed.seen) (λ i. (there i, reads.number i)) closes.alone;
  within = stands_itself closed.seen;
}

-- A stream that was accepted, read up to the end, and sent back.
pub echoes : (caller accepted finished closed : SeatView) (made : HalfView × HalfView) (writer reader : HalfView) (count : ℕ) →
    Books false caller accepted (AcceptsHalves caller.number (Ok (Some made))) → FinishesHalf accepted finished writer → ClosesHalf finished closed reader →
    Copies false made.1 made.0 reader.seat writer.seat count → (reader.id ≡ made.1.id) × (writer.id ≡ made.0.id) →
    EchoesNext caller.seen closed.seen
echoes caller accepted finished closed made writer reader count accepts finishes closes copied ids = (made.0.id, copied.bytes, it, refl)
  where
    it : Echoes made.0.id copied.bytes closed.seen
    it = record {
      caller = caller;
      accepted = accepted;
      writer = made.0;
      reader = made.1;
      read = reader.seat;
      wrote = writer.seat;
      finished = finished;
      closed = closed;
      same = refl;
      accepts = accepts;
      reads = copied.read;
      writes = copied.written;
      finishes = subst (λ (it : ℕ). SeesLast accepted finished writer.seat (Spends (to_finish it) it writer.seat.number (Ok tt))) ids.1 finishes.sees;
      writes_alone = subst (λ (x : ℕ × ℕ). WritesAlone x.0 x.1 finished.seen) (λ i. (ids.1 i, copied.written.number i)) finishes.alone;
      closes = subst (λ (it : ℕ). SeesLast finished closed reader.seat (Closes it reader.seat.number (Ok tt))) ids.0 closes.sees;
      reads_alone = subst (λ (x : ℕ × ℕ). ReadsAlone x.0 x.1 closed.seen) (λ i. (ids.0 i, copied.read.number i)) closes.alone;
      within = stands_itself closed.seen;
    }

-- it stands in the history that is seen later too
pub echoes_on : (id : ℕ) (bytes : List ℕ) (seen later : Option (List Entry)) → Echoes id bytes seen → StandsIn seen later → Echoes id bytes later
echoes_on id bytes seen later e s = record {
  caller = e.caller;
  accepted = e.accepted;
  writer = e.writer;
  reader = e.reader;
  read = e.read;
  wrote = e.wrote;
  finished = e.finished;
  closed = e.closed;
  same = e.same;
  accepts = e.accepts;
  reads = e.reads;
  writes = e.writes;
  finishes = e.finishes;
  writes_alone = e.writes_alone;
  closes = e.closes;
  reads_alone = e.reads_alone;
  within = stands_on e.closed.seen seen later e.within s;
}

-- ---- many streams, one after another

pub none_echoed : (seen : Option (List Entry)) → EchoesMany 0 seen
none_echoed seen = tt

-- they stand in the history that is seen later
pub many_on : (count : ℕ) (seen later : Option (List Entry)) → EchoesMany count seen → StandsIn seen later → EchoesMany count later
unfolding echoes_on
many_on zero seen later e s = tt
many_on (suc count) seen later e s = (e.0, e.1, echoes_on e.0 e.1 seen later e.2 s, e.3)

-- one more
pub many_more : (count : ℕ) (seen later : Option (List Entry)) → EchoesMany count seen → EchoesNext seen later → EchoesMany (count + 1) later
many_more count seen later e n = subst (λ (many : ℕ). EchoesMany many later) (next count) (n.0, n.1, n.2, subst (EchoesMany count) (sym n.3) e)
  where
    next : (count : ℕ) → suc count ≡ count + 1
    next count = omega arith

-- what its caller had seen before stands in the history with an echo
echo_grows : (id : ℕ) (bytes : List ℕ) (seen : Option (List Entry)) (e : Echoes id bytes seen) → StandsIn e.caller.seen seen
echo_grows id bytes seen e =
    stands_on e.caller.seen e.accepted.seen seen (extends_stands e.caller.number e.caller.seen e.accepted.seen (AcceptsHalves e.caller.number (Ok (Some (e.writer, e.reader)))) e.accepts.extends)
    (stands_on e.accepted.seen e.finished.seen seen (caller_stands e.accepted e.finished e.wrote (Spends (to_finish e.writer.id) e.writer.id e.wrote.number (Ok tt)) e.finishes)
    (stands_on e.finished.seen e.closed.seen seen (caller_stands e.finished e.closed e.read (Closes e.reader.id e.read.number (Ok tt)) e.closes) e.within))

-- each of many stands in the history
pub one_of_many : (id count : ℕ) (seen : Option (List Entry)) (m : EchoesMany count seen) → HasEchoed id count seen m → (bytes : List ℕ) × Echoes id bytes seen
one_of_many id zero seen m h = absurd h
one_of_many id (suc count) seen m (inl e) = (m.1, subst (λ (it : ℕ). Echoes it m.1 seen) e m.2)
one_of_many id (suc count) seen m (inr h) =
    let t : (bytes : List ℕ) × Echoes id bytes m.2.caller.seen = one_of_many id count m.2.caller.seen m.3 h in
    (t.0, echoes_on id t.0 m.2.caller.seen seen t.1 (echo_grows m.0 m.1 seen m.2))
