-- What a caller wrote to a stream comes back to it, where the caller at the other end wrote what it read.
use Rattle.std.proofs.Common.{◌≡◌, ℕ, List, [], ◌∷◌, ◌++◌, true, false, Option, None, Some, Ok, refl, sym, ap, subst, ◌∙◌}
use Rattle.ymx_machine.specs.declared.types.Reply.TheVariants as reply
use Rattle.ymx_machine.specs.declared.types.Step.{Step}
use Rattle.ymx_machine.specs.shared.Events.{Reply}
use Rattle.ymx_model.specs.session.Events.{Event}
use Rattle.ymx_model.specs.session.Sessions.{Session}
use Rattle.ymx_model.specs.session.Emissions.{in_turn}
use Rattle.ymx_model.specs.declared.types.Entry.{Entry}
use Rattle.ymx_headline.specs.Laws.{AreGood}
use Rattle.ymx_headline.specs.audit.Told.{IsOneRun}
use Rattle.ymx_seats.specs.Views.{SeatView}
use Rattle.ymx_hub.specs.Books.{Books, Extends, Spends, Closes, IsGiven, TellsStream, to_open, to_accept, to_finish}
use Rattle.ymx_hub.specs.Halves.{HalfView, OpensHalves, AcceptsHalves}
use Rattle.ymx_hub.specs.Rights.{WritesAlone, ReadsAlone}
use Rattle.ymx_hub.specs.Shown.{HasGrown, BooksShown}
use Rattle.ymx_hub.specs.Turns.{AreWrites, WriteTurns}
use Rattle.ymx_hub.proofs.Carried.{all_written}
use Rattle.ymx_hub.proofs.Extends.{extends_on}
use Rattle.ymx_connect.specs.Streams.{ReadsUpTo, AreWritesTo, WritesOf, WritesOn}
use Rattle.ymx_connect.specs.Told.{SeesLast, StandsIn, Exchanges, Echoes}
use Rattle.ymx_connect.proofs.Told.{stands, stands_on}
use Rattle.ymx_joined.specs.Callers.{took_at, gave_at, all_taken, all_given, was_ended, CarryAll, AreHandedOutOnce, TakeNoneBehindFinish, GiveNoneBehindEnd, EchoesCome}
use Rattle.ymx_joined.proofs.Callers.{run_carries, handed_out_once, none_behind_finish, none_behind_end}
use Rattle.ymx_joined.proofs.OwnEntries.{Starts, starts, WritesAll, ReadsAll, writer_took, reader_got}

-- ---- a half whose calls are all made

-- A half did so, and its caller saw a history after its last call: of the half all entries are these, after all that it had seen.
record EndsHalf (n : ℕ) (before after : Option (List Entry)) (Own : List Entry → Type 0) : Type 0 where
  last : Option (List Entry)
  extends : Extends n before last Own
  more : HasGrown n last after

-- its calls, and then the last one
ends_half : (half before old new : SeatView) (First Both : List Entry → Type 0) (Next : ℕ → List Entry → Type 0) →
    ((es ds : List Entry) → First es → Next half.number ds → Both (es ++ ds)) → Books false half before First → SeesLast old new before (Next before.number) → EndsHalf half.number half.seen new.seen Both
ends_half half before old new First Both Next join first sees =
    let booked : BooksShown false before sees.last (Next before.number) = sees.booked in
    let same : before.number ≡ half.number = first.number in
    let next : Extends half.number before.seen booked.between.seen (Next half.number) =
    subst (λ (k : ℕ). Extends k before.seen booked.between.seen (Next k)) same booked.booked.extends in
    record {
      last = booked.between.seen;
      extends = extends_on half.number half.seen before.seen booked.between.seen First (Next half.number) Both join first.extends next;
      more = subst (λ (v : ℕ × Option (List Entry)). HasGrown v.0 booked.between.seen v.1) (λ i. ((booked.booked.number ∙ same) i, sym sees.seen i)) booked.shown.grown;
    }

-- what was added to what a caller had seen is such, where a history goes on after it
added_such : (n : ℕ) (v w : Option (List Entry)) (Such : List Entry → Type 0) (es : List Entry) → Extends n v w Such → StandsIn w (Some es) → (added : List Entry) × Such added
added_such n (Some v) (Some w) Such es e s = (e.0, e.1)
added_such n None (Some w) Such es e s = absurd e
added_such n v None Such es e s = absurd s

-- the halves of a stream that was given, without a byte
handed_out : (id taken seat : ℕ) (a : Event) (r : Reply) (one other : SeatView) (added : List Entry) → TellsStream a id taken r → took_at id a r ≡ [] → gave_at id a r ≡ [] → IsGiven a r seat one other added →
    Starts (took_at id) id one.number one.seen × Starts (gave_at id) id other.number other.seen
handed_out id taken seat a r one other added t took gave g = (
  starts (took_at id) id taken one.number g.0 seat one.start a r one.seen t took g.2 g.4.1,
  starts (gave_at id) id taken other.number g.0 seat other.start a r other.seen t gave g.3 g.5.1,
)

writes_to : (id n : ℕ) (left : List ℕ) (es : List Entry) → AreWrites id n left es → AreWritesTo id n es
writes_to id n left [] w = tt
writes_to id n left (e ∷ es) w = ((w.0.0, (left, w.0.1)), writes_to id n _ es w.1)

-- ---- both halves of a stream

-- what holds of the history of a session in one run
record Holds (es : List Entry) : Type 0 where
  once : AreHandedOutOnce es
  finishes : TakeNoneBehindFinish es
  ends : GiveNoneBehindEnd es

-- what a stream took and gave in a history, up to its end
record HasCarried (id : ℕ) (took gave : List ℕ) (es : List Entry) : Type 0 where
  taken : all_taken id es ≡ took
  given : all_given id es ≡ gave
  ended : was_ended id es ≡ true

-- They did all that their stream took and gave.
both_carried : (took gave : List ℕ) (es : List Entry) (writer reader : HalfView) (finished closed : SeatView) → Holds es → reader.id ≡ writer.id →
    Starts (took_at writer.id) writer.id writer.seat.number writer.seat.seen × Starts (gave_at writer.id) writer.id reader.seat.number reader.seat.seen →
    EndsHalf writer.seat.number writer.seat.seen finished.seen (WritesAll writer.id writer.seat.number took) → WritesAlone writer.id writer.seat.number finished.seen → StandsIn finished.seen (Some es) →
    EndsHalf reader.seat.number reader.seat.seen closed.seen (ReadsAll reader.id reader.seat.number gave) → ReadsAlone reader.id reader.seat.number closed.seen → StandsIn closed.seen (Some es) →
    HasCarried writer.id took gave es
both_carried took gave es writer reader finished closed holds same first writes writes_alone on reads reads_alone within =
    let begins : Starts (gave_at reader.id) reader.id reader.seat.number reader.seat.seen =
    subst (λ (i : ℕ). Starts (gave_at i) i reader.seat.number reader.seat.seen) (sym same) first.1 in
    let got = reader_got reader.id reader.seat.number gave reader.seat.seen reads.last closed.seen es holds.once holds.ends begins reads.extends reads.more reads_alone within in
    record {
      taken = writer_took writer.id writer.seat.number took writer.seat.seen writes.last finished.seen es holds.once holds.finishes first.0 writes.extends writes.more writes_alone on;
      given = ap (λ (i : ℕ). all_given i es) (sym same) ∙ got.0;
      ended = ap (λ (i : ℕ). was_ended i es) (sym same) ∙ got.1;
    }

-- reads up to the end, and the reading half was closed
reads_ended : (id : ℕ) (bytes : List ℕ) (half before old new : SeatView) → Books false half before (ReadsUpTo reply.ReadEnd id half.number bytes) → SeesLast old new before (Closes id before.number (Ok tt)) →
    EndsHalf half.number half.seen new.seen (ReadsAll id half.number bytes)
reads_ended id bytes half before old new reads closes =
    ends_half half before old new (ReadsUpTo reply.ReadEnd id half.number bytes) (ReadsAll id half.number bytes) (λ k. Closes id k (Ok tt)) (λ es ds r c. (es, ds, refl, r, c)) reads closes

-- writes, and the writing half was finished
writes_ended : (id : ℕ) (bytes : List ℕ) (half before old new : SeatView) (First : List Entry → Type 0) → ((es : List Entry) → First es → WritesOf id half.number bytes es) → Books false half before First →
    SeesLast old new before (Spends (to_finish id) id before.number (Ok tt)) → EndsHalf half.number half.seen new.seen (WritesAll id half.number bytes)
writes_ended id bytes half before old new First are writes finishes =
    ends_half half before old new First (WritesAll id half.number bytes) (λ k. Spends (to_finish id) id k (Ok tt)) (λ es ds w f. (es, ds, refl, are es w, f)) writes finishes

exchange_carried : (text got : List ℕ) (es : List Entry) → Holds es → (x : Exchanges text got (Some es)) → HasCarried x.writer.id text got es
exchange_carried text got es holds x =
    let on : StandsIn x.finished.seen (Some es) = stands_on x.finished.seen x.closed.seen (Some es) (stands x.finished.number x.finished.seen x.closed.seen x.closes.shown.grown) x.within in
    let opened : StandsIn x.opened.seen (Some es) = stands_on x.opened.seen x.finished.seen (Some es) (stands x.opened.number x.opened.seen x.finished.seen x.finishes.shown.grown) on in
    let given = added_such x.caller.number x.caller.seen x.opened.seen (OpensHalves x.caller.number (Ok (x.writer, x.reader))) es x.opens.extends opened in
    both_carried text got es x.writer x.reader x.finished x.closed holds given.1.0
    (handed_out x.writer.id 0 x.caller.number to_open (reply.Opened x.writer.id) x.writer.seat x.reader.seat given.0 refl refl refl given.1.1)
    (writes_ended x.writer.id text x.writer.seat x.wrote x.opened x.finished (WriteTurns x.writer.id text x.writer.seat.number (Ok tt))
    (λ ws w. (writes_to x.writer.id x.writer.seat.number text ws w.0, all_written x.writer.id x.writer.seat.number text tt ws w)) x.writes x.finishes)
    x.writes_alone on
    (reads_ended x.reader.id got x.reader.seat x.read x.finished x.closed x.reads x.closes) x.reads_alone x.within

echo_carried : (id : ℕ) (bytes : List ℕ) (es : List Entry) → Holds es → (x : Echoes id bytes (Some es)) → HasCarried x.writer.id bytes bytes es
echo_carried id bytes es holds x =
    let on : StandsIn x.finished.seen (Some es) = stands_on x.finished.seen x.closed.seen (Some es) (stands x.finished.number x.finished.seen x.closed.seen x.closes.shown.grown) x.within in
    let accepted : StandsIn x.accepted.seen (Some es) = stands_on x.accepted.seen x.finished.seen (Some es) (stands x.accepted.number x.accepted.seen x.finished.seen x.finishes.shown.grown) on in
    let given = added_such x.caller.number x.caller.seen x.accepted.seen (AcceptsHalves x.caller.number (Ok (Some (x.writer, x.reader)))) es x.accepts.extends accepted in
    both_carried bytes bytes es x.writer x.reader x.finished x.closed holds given.1.0
    (handed_out x.writer.id 0 x.caller.number to_accept (reply.Accepted (Some x.writer.id)) x.writer.seat x.reader.seat given.1.1.1 refl refl refl given.1.1.4)
    (writes_ended x.writer.id bytes x.writer.seat x.wrote x.accepted x.finished (WritesOn x.writer.id x.writer.seat.number bytes) (λ ws w. w.0) x.writes x.finishes)
    x.writes_alone on
    (reads_ended x.reader.id bytes x.reader.seat x.read x.finished x.closed x.reads x.closes) x.reads_alone x.within

-- ---- both ends

echo_comes : (here there : List Entry) → Holds here → Holds there → CarryAll here there → EchoesCome here there
echo_comes here there mine yours carry text got echo x e =
    let id = x.writer.id in
    let h : HasCarried id text got here = exchange_carried text got here mine x in
    let t : HasCarried id echo echo there = subst (λ (i : ℕ). HasCarried i echo echo there) e.same (echo_carried id echo there yours e) in
    let over : text ≡ echo = sym h.taken ∙ (carry id).0.whole t.ended ∙ t.given in
    let back : echo ≡ got = sym t.taken ∙ (carry id).1.whole h.ended ∙ h.given in
    (sym over, sym back ∙ sym over)

-- Between two histories that are one run an echo comes back whole, to whichever side.
pub echoes_come : (xs ys : List Entry) (steps : List Step) (wa fa wb fb : ℕ) (s t : Session) → AreGood wa fa wb fb → IsOneRun in_turn xs ys steps wa fa wb fb s t → EchoesCome xs ys × EchoesCome ys xs
echoes_come xs ys steps wa fa wb fb s t good one =
    let carry = run_carries xs ys steps wa fa wb fb s t good one in
    let once = handed_out_once xs ys steps wa fa wb fb s t good one in
    let finishes = none_behind_finish xs ys steps wa fa wb fb s t good one in
    let ends = none_behind_end xs ys steps wa fa wb fb s t good one in
    let a : Holds xs = record { once = once.0; finishes = finishes.0; ends = ends.0 } in
    let b : Holds ys = record { once = once.1; finishes = finishes.1; ends = ends.1 } in
    (echo_comes xs ys a b carry, echo_comes ys xs b a (λ id. ((carry id).1, (carry id).0)))
