use Rattle.std.proofs.Common.{ℕ, ◌≡◌, ◌⊎◌, ◌∙◌, length, refl, sym, ap, subst, Option, arith, rules}
use Rattle.std.specs.Prelude.{Contains}
use Rattle.ymx_machine.specs.declared.types.Reply.{Reply as ReplyOf}
use Rattle.ymx_machine.specs.declared.types.Reply.TheVariants as reply
use Rattle.ymx_model.specs.session.Events.{Event}
use Rattle.ymx_session.specs.Applied.{in_buffer, IsReplyTo, IsRefusal}
use Rattle.ymx_session.specs.Replies.{done_or}
use Rattle.ymx_seats.specs.Journals.{JournalView}
use Rattle.ymx_seats.specs.Views.{whole_of}
use Rattle.ymx_hub.specs.declared.stream_calls.HalfCall.{HalfCall}
use Rattle.ymx_hub.specs.declared.stream_calls.HalfCall.TheVariants as half
use Rattle.ymx_hub.specs.Books.{to_end, to_forget}
use Rattle.ymx_hub.specs.Booked.{BookedView, spent, Kept, IsJournaled}
use Rattle.ymx_hub.specs.Rights.{AllReleased}
use Rattle.ymx_hub.proofs.History.{kept_after, kept_twice}
use Rattle.ymx_hub.proofs.Books.{spends_one, spends_two, books_none}
use Rattle.ymx_hub.proofs.Gained.{gained_none, gained_one, spent_adds_none}
use Rattle.ymx_hub.proofs.Extends.{behind_at, journal_at, entries_at, after_at}
use Rattle.ymx_hub.proofs.Journals.{journaled_after, journaled_twice, all_after, all_twice, half_known, may_end}
use Rattle.ymx_hub.proofs.Spares.{half_spares}
use Rattle.ymx_hub.proofs.Steps.{gives_at, spends_first, spends_second, steps_of}
use Rattle.ymx_hub.proofs.booked.Booked.end_half.Goals as goal

-- a half ends with no other answer
answer_of_end : (call : HalfCall) (id : ℕ) (told : ReplyOf ℕ) → IsReplyTo (to_end call id) told → (told ≡ reply.Done) ⊎ IsRefusal told
answer_of_end half.Finish id told answer = answer
answer_of_end half.Reset id told answer = answer

pub done-ended-requires : goal.done-ended-requires
done-ended-requires g c =
    answer_of_end c.args.half_call c.args.id c.record_prepared-told.result (subst (λ (e : Event). IsReplyTo e c.record_prepared-told.result) c.event-event.ensures c.record_prepared-told.ensures.answer)

pub invariant_of-self-2 : goal.invariant_of-self-2
invariant_of-self-2 g c = (
  kept_twice g.R.Recorder.KEEPS c.self.inside.ended c.self.inside.role c.self.inside.config c.self.inside.log.entries c.record_prepared-told.new.log.entries c.record_prepared.new.log.entries c.self.inside.session c.record_prepared-told.new.session c.record_prepared.new.session
      c.args.seat.now.number (to_end c.args.half_call c.args.id) (done_or c.done-ended.result) c.record_prepared-told.new.seat.number (to_forget c.args.id) (in_buffer c.record_prepared.new.buffer c.record_prepared.result) c.self.invariant.0
      (gives_at _ _ _ _ _ _ c.event-event.ensures (c.done-ended.ensures c.record_prepared-told.new.buffer) c.record_prepared-told.ensures.event) (after_at g.R.Recorder.KEEPS _ c.args.seat.now.number _ (to_end c.args.half_call c.args.id) _ (done_or c.done-ended.result) _ c.self.inside.log.entries _ c.record_prepared-told.ensures.entries (c.prepare-2.ensures.number ∙ c.prepare.ensures.number) c.event-event.ensures (c.done-ended.ensures c.record_prepared-told.new.buffer) (c.prepare-2.ensures.entries ∙ c.prepare.ensures.entries)) c.record_prepared.ensures.event (after_at g.R.Recorder.KEEPS _ _ _ (to_forget c.args.id) _ (in_buffer c.record_prepared.new.buffer c.record_prepared.result) _ _ _ c.record_prepared.ensures.entries refl refl refl refl),
  c.self.invariant.1,
  c.self.invariant.2,
  c.self.invariant.3,
  journaled_twice g.R.Recorder.WITNESSED g.R.Naming.role g.R.Naming.config c.self.inside.role c.self.inside.config c.self.inside.log.journal c.record_prepared-told.new.log.journal c.record_prepared.new.log.journal c.self.inside.session c.record_prepared-told.new.session c.record_prepared.new.session c.self.inside.given
      c.args.seat.now.number (to_end c.args.half_call c.args.id) (done_or c.done-ended.result) c.record_prepared-told.new.seat.number (to_forget c.args.id) (in_buffer c.record_prepared.new.buffer c.record_prepared.result) c.args.seat.now.right c.record_prepared-told.new.seat.right c.self.inside.released c.self.invariant.4
      (gives_at _ _ _ _ _ _ c.event-event.ensures (c.done-ended.ensures c.record_prepared-told.new.buffer) c.record_prepared-told.ensures.event) (journal_at _ c.args.seat.now.number _ (to_end c.args.half_call c.args.id) _ (done_or c.done-ended.result) _ c.self.inside.log.journal _ c.record_prepared-told.ensures.journal (c.prepare-2.ensures.number ∙ c.prepare.ensures.number) c.event-event.ensures (c.done-ended.ensures c.record_prepared-told.new.buffer) (c.prepare-2.ensures.journal ∙ c.prepare.ensures.journal)) c.record_prepared.ensures.event (journal_at _ _ _ (to_forget c.args.id) _ (in_buffer c.record_prepared.new.buffer c.record_prepared.result) _ _ _ c.record_prepared.ensures.journal refl refl refl refl)
      (half_known c.args.seat.now.number _ c.args.seat.now.right _ c.self.inside.log.journal _ (c.prepare-2.ensures.number ∙ c.prepare.ensures.number) (c.prepare-2.ensures.right ∙ c.prepare.ensures.right) (c.prepare-2.ensures.journal ∙ c.prepare.ensures.journal) c.record_prepared-told.ensures.known) c.self.invariant.5 (λ w. may_end (Contains c.self.inside.released) c.args.half_call c.args.id c.args.seat.now.right (c.requires.may w)) c.record_prepared.ensures.known (λ w. tt),
  all_twice c.self.inside.released c.self.inside.log.journal c.record_prepared-told.new.log.journal c.record_prepared.new.log.journal c.args.seat.now.number (to_end c.args.half_call c.args.id) (done_or c.done-ended.result) c.record_prepared-told.new.seat.number (to_forget c.args.id) (in_buffer c.record_prepared.new.buffer c.record_prepared.result) (journal_at _ c.args.seat.now.number _ (to_end c.args.half_call c.args.id) _ (done_or c.done-ended.result) _ c.self.inside.log.journal _ c.record_prepared-told.ensures.journal (c.prepare-2.ensures.number ∙ c.prepare.ensures.number) c.event-event.ensures (c.done-ended.ensures c.record_prepared-told.new.buffer) (c.prepare-2.ensures.journal ∙ c.prepare.ensures.journal)) (journal_at _ _ _ (to_forget c.args.id) _ (in_buffer c.record_prepared.new.buffer c.record_prepared.result) _ _ _ c.record_prepared.ensures.journal refl refl refl refl) c.self.invariant.5,
)

pub invariant_of-self-then-not-second : goal.invariant_of-self-then-not-second
invariant_of-self-then-not-second g c = (
  subst (λ es. Kept g.R.Recorder.KEEPS c.self.inside.ended c.self.inside.role c.self.inside.config es c.record_prepared-told.new.session)
      (sym (after_at g.R.Recorder.KEEPS _ c.args.seat.now.number _ (to_end c.args.half_call c.args.id) _ (done_or c.done-ended.result) _ c.self.inside.log.entries _ c.record_prepared-told.ensures.entries (c.prepare-2.ensures.number ∙ c.prepare.ensures.number) c.event-event.ensures (c.done-ended.ensures c.record_prepared-told.new.buffer) (c.prepare-2.ensures.entries ∙ c.prepare.ensures.entries)))
      (kept_after g.R.Recorder.KEEPS c.self.inside.ended c.self.inside.role c.self.inside.config c.self.inside.log.entries c.self.inside.session c.record_prepared-told.new.session c.args.seat.now.number (to_end c.args.half_call c.args.id) (done_or c.done-ended.result) c.self.invariant.0
      (gives_at _ _ _ _ _ _ c.event-event.ensures (c.done-ended.ensures c.record_prepared-told.new.buffer) c.record_prepared-told.ensures.event)),
  c.self.invariant.1,
  c.self.invariant.2,
  c.self.invariant.3,
  subst (λ (j : Option JournalView). IsJournaled g.R.Recorder.WITNESSED g.R.Naming.role g.R.Naming.config c.self.inside.role c.self.inside.config j c.record_prepared-told.new.session c.self.inside.given)
      (sym (journal_at _ c.args.seat.now.number _ (to_end c.args.half_call c.args.id) _ (done_or c.done-ended.result) _ c.self.inside.log.journal _ c.record_prepared-told.ensures.journal (c.prepare-2.ensures.number ∙ c.prepare.ensures.number) c.event-event.ensures (c.done-ended.ensures c.record_prepared-told.new.buffer) (c.prepare-2.ensures.journal ∙ c.prepare.ensures.journal)))
      (journaled_after g.R.Recorder.WITNESSED g.R.Naming.role g.R.Naming.config c.self.inside.role c.self.inside.config c.self.inside.log.journal c.self.inside.session c.record_prepared-told.new.session c.self.inside.given c.args.seat.now.number (to_end c.args.half_call c.args.id) (done_or c.done-ended.result) c.args.seat.now.right c.self.inside.released c.self.invariant.4
      (gives_at _ _ _ _ _ _ c.event-event.ensures (c.done-ended.ensures c.record_prepared-told.new.buffer) c.record_prepared-told.ensures.event)
      (half_known c.args.seat.now.number _ c.args.seat.now.right _ c.self.inside.log.journal _ (c.prepare-2.ensures.number ∙ c.prepare.ensures.number) (c.prepare-2.ensures.right ∙ c.prepare.ensures.right) (c.prepare-2.ensures.journal ∙ c.prepare.ensures.journal) c.record_prepared-told.ensures.known) c.self.invariant.5 (λ w. may_end (Contains c.self.inside.released) c.args.half_call c.args.id c.args.seat.now.right (c.requires.may w))),
  subst (AllReleased c.self.inside.released) (sym (journal_at _ c.args.seat.now.number _ (to_end c.args.half_call c.args.id) _ (done_or c.done-ended.result) _ c.self.inside.log.journal _ c.record_prepared-told.ensures.journal (c.prepare-2.ensures.number ∙ c.prepare.ensures.number) c.event-event.ensures (c.done-ended.ensures c.record_prepared-told.new.buffer) (c.prepare-2.ensures.journal ∙ c.prepare.ensures.journal)))
      (all_after c.self.inside.released c.self.inside.log.journal c.args.seat.now.number (to_end c.args.half_call c.args.id) (done_or c.done-ended.result) c.self.invariant.5),
)

pub returns-then-not-second-clause-booked : goal.returns-then-not-second-clause-booked
returns-then-not-second-clause-booked g c =
    spends_one g.R.Recorder.KEEPS c.args.seat.now c.record_prepared-told.new.seat (to_end c.args.half_call c.args.id) c.args.id (length c.prepare-2.new.self.entries) c.self.inside.log.journal c.done-ended.result _ c.answered.ensures
    (c.record_prepared-told.ensures.number ∙ (c.prepare-2.ensures.number ∙ c.prepare.ensures.number))
    (c.record_prepared-told.ensures.start ∙ (c.prepare-2.ensures.start ∙ c.prepare.ensures.start))
    (entries_at g.R.Recorder.KEEPS _ _ _ _ (to_end c.args.half_call c.args.id) _ (done_or c.done-ended.result) _ _ _ c.record_prepared-told.ensures.seat_entries (c.prepare-2.ensures.number ∙ c.prepare.ensures.number) c.event-event.ensures (c.done-ended.ensures c.record_prepared-told.new.buffer) (c.prepare-2.ensures.seat_entries ∙ c.prepare.ensures.seat_entries))
    (c.record_prepared-told.ensures.seen ∙ ap whole_of (journal_at _ c.args.seat.now.number _ (to_end c.args.half_call c.args.id) _ (done_or c.done-ended.result) _ c.self.inside.log.journal _ c.record_prepared-told.ensures.journal (c.prepare-2.ensures.number ∙ c.prepare.ensures.number) c.event-event.ensures (c.done-ended.ensures c.record_prepared-told.new.buffer) (c.prepare-2.ensures.journal ∙ c.prepare.ensures.journal)))
    (behind_at _ _ _ _ _ _ (c.prepare-2.ensures.number ∙ c.prepare.ensures.number) (c.prepare-2.ensures.seen ∙ c.prepare.ensures.seen) (c.prepare-2.ensures.journal ∙ c.prepare.ensures.journal) c.record_prepared-told.ensures.behind)

pub returns-clause-booked : goal.returns-clause-booked
returns-clause-booked g c =
    spends_two g.R.Recorder.KEEPS c.args.seat.now c.record_prepared-told.new.seat c.record_prepared.new.seat (to_end c.args.half_call c.args.id) c.args.id (length c.prepare-2.new.self.entries) (length c.record_prepared-told.new.log.entries) c.self.inside.log.journal c.record_prepared-told.new.log.journal c.done-ended.result (in_buffer c.record_prepared.new.buffer c.record_prepared.result) _ c.answered-2.ensures
    (c.record_prepared-told.ensures.number ∙ (c.prepare-2.ensures.number ∙ c.prepare.ensures.number))
    (c.record_prepared-told.ensures.start ∙ (c.prepare-2.ensures.start ∙ c.prepare.ensures.start))
    (entries_at g.R.Recorder.KEEPS _ _ _ _ (to_end c.args.half_call c.args.id) _ (done_or c.done-ended.result) _ _ _ c.record_prepared-told.ensures.seat_entries (c.prepare-2.ensures.number ∙ c.prepare.ensures.number) c.event-event.ensures (c.done-ended.ensures c.record_prepared-told.new.buffer) (c.prepare-2.ensures.seat_entries ∙ c.prepare.ensures.seat_entries))
    (c.record_prepared-told.ensures.seen ∙ ap whole_of (journal_at _ c.args.seat.now.number _ (to_end c.args.half_call c.args.id) _ (done_or c.done-ended.result) _ c.self.inside.log.journal _ c.record_prepared-told.ensures.journal (c.prepare-2.ensures.number ∙ c.prepare.ensures.number) c.event-event.ensures (c.done-ended.ensures c.record_prepared-told.new.buffer) (c.prepare-2.ensures.journal ∙ c.prepare.ensures.journal)))
    (behind_at _ _ _ _ _ _ (c.prepare-2.ensures.number ∙ c.prepare.ensures.number) (c.prepare-2.ensures.seen ∙ c.prepare.ensures.seen) (c.prepare-2.ensures.journal ∙ c.prepare.ensures.journal) c.record_prepared-told.ensures.behind)
    c.record_prepared.ensures.number c.record_prepared.ensures.start
    (entries_at g.R.Recorder.KEEPS _ _ _ _ (to_forget c.args.id) _ (in_buffer c.record_prepared.new.buffer c.record_prepared.result) _ _ _ c.record_prepared.ensures.seat_entries refl refl refl refl)
    (c.record_prepared.ensures.seen ∙ ap whole_of (journal_at _ _ _ (to_forget c.args.id) _ (in_buffer c.record_prepared.new.buffer c.record_prepared.result) _ _ _ c.record_prepared.ensures.journal refl refl refl refl))
    c.record_prepared.ensures.behind

pub returns-then-not-second-clause-off : goal.returns-then-not-second-clause-off
returns-then-not-second-clause-off g c = λ _.
    half_spares c.args.half_call c.args.id c.self.inside.session c.record_prepared-told.new.session _ c.done-ended.result _ (gives_at _ _ _ _ _ _ c.event-event.ensures refl c.record_prepared-told.ensures.event) (c.done-ended.ensures c.record_prepared-told.new.buffer) c.answered.ensures

pub returns-clause-off : goal.returns-clause-off
returns-clause-off g c = λ _.
    half_spares c.args.half_call c.args.id c.self.inside.session c.record_prepared-told.new.session _ c.done-ended.result _ (gives_at _ _ _ _ _ _ c.event-event.ensures refl c.record_prepared-told.ensures.event) (c.done-ended.ensures c.record_prepared-told.new.buffer) c.answered-2.ensures

pub returns-then-not-second-clause-steps : goal.returns-then-not-second-clause-steps
returns-then-not-second-clause-steps g c =
    spends_first (to_end c.args.half_call c.args.id) g.R.Recorder.KEEPS c.args.seat.now.number c.args.id c.done-ended.result c.answered.result c.args.self.now _ (cc) c.answered.ensures
    (steps_of g.R.Recorder.KEEPS (to_end c.args.half_call c.args.id) (done_or c.done-ended.result) c.args.seat.now.number (spent c.args.id c.args.self.now) _ _ c.self.inside.session _ c.self.inside.log.entries _ c.self.inside.log.journal _ _ _ _ _ _ (cc) (gives_at _ _ _ _ _ _ c.event-event.ensures (c.done-ended.ensures c.record_prepared-told.new.buffer) c.record_prepared-told.ensures.event)
    (after_at g.R.Recorder.KEEPS _ c.args.seat.now.number _ (to_end c.args.half_call c.args.id) _ (done_or c.done-ended.result) _ c.self.inside.log.entries _ c.record_prepared-told.ensures.entries (c.prepare-2.ensures.number ∙ c.prepare.ensures.number) c.event-event.ensures (c.done-ended.ensures c.record_prepared-told.new.buffer) (c.prepare-2.ensures.entries ∙ c.prepare.ensures.entries))
    (journal_at _ c.args.seat.now.number _ (to_end c.args.half_call c.args.id) _ (done_or c.done-ended.result) _ c.self.inside.log.journal _ c.record_prepared-told.ensures.journal (c.prepare-2.ensures.number ∙ c.prepare.ensures.number) c.event-event.ensures (c.done-ended.ensures c.record_prepared-told.new.buffer) (c.prepare-2.ensures.journal ∙ c.prepare.ensures.journal)))

pub returns-clause-steps : goal.returns-clause-steps
returns-clause-steps g c =
    let mid : BookedView = record { role = c.self.inside.role; config = c.self.inside.config; session = c.record_prepared-told.new.session; entries = c.record_prepared-told.new.log.entries; journal = c.record_prepared-told.new.log.journal; given = c.self.inside.given; unspent = c.self.inside.unspent; half_spent = c.self.inside.half_spent.keys; released = c.self.inside.released; ended = c.self.inside.ended } in
    spends_second (to_end c.args.half_call c.args.id) g.R.Recorder.KEEPS c.args.seat.now.number c.args.id c.done-ended.result (in_buffer c.record_prepared.new.buffer c.record_prepared.result) c.answered-2.result c.args.self.now mid _ (cc) c.answered-2.ensures
    (steps_of g.R.Recorder.KEEPS (to_end c.args.half_call c.args.id) (done_or c.done-ended.result) c.args.seat.now.number (spent c.args.id c.args.self.now) _ _ c.self.inside.session _ c.self.inside.log.entries _ c.self.inside.log.journal _ _ _ _ _ _ (cc) (gives_at _ _ _ _ _ _ c.event-event.ensures (c.done-ended.ensures c.record_prepared-told.new.buffer) c.record_prepared-told.ensures.event)
    (after_at g.R.Recorder.KEEPS _ c.args.seat.now.number _ (to_end c.args.half_call c.args.id) _ (done_or c.done-ended.result) _ c.self.inside.log.entries _ c.record_prepared-told.ensures.entries (c.prepare-2.ensures.number ∙ c.prepare.ensures.number) c.event-event.ensures (c.done-ended.ensures c.record_prepared-told.new.buffer) (c.prepare-2.ensures.entries ∙ c.prepare.ensures.entries))
    (journal_at _ c.args.seat.now.number _ (to_end c.args.half_call c.args.id) _ (done_or c.done-ended.result) _ c.self.inside.log.journal _ c.record_prepared-told.ensures.journal (c.prepare-2.ensures.number ∙ c.prepare.ensures.number) c.event-event.ensures (c.done-ended.ensures c.record_prepared-told.new.buffer) (c.prepare-2.ensures.journal ∙ c.prepare.ensures.journal)))
    (steps_of g.R.Recorder.KEEPS (to_forget c.args.id) (in_buffer c.record_prepared.new.buffer c.record_prepared.result) c.args.seat.now.number mid _ _ c.record_prepared-told.new.session _ c.record_prepared-told.new.log.entries _ c.record_prepared-told.new.log.journal _ _ _ _ _ _ refl c.record_prepared.ensures.event
    (after_at g.R.Recorder.KEEPS _ c.args.seat.now.number _ (to_forget c.args.id) _ (in_buffer c.record_prepared.new.buffer c.record_prepared.result) _ _ _ c.record_prepared.ensures.entries (c.record_prepared-told.ensures.number ∙ (c.prepare-2.ensures.number ∙ c.prepare.ensures.number)) refl refl refl)
    (journal_at _ c.args.seat.now.number _ (to_forget c.args.id) _ (in_buffer c.record_prepared.new.buffer c.record_prepared.result) _ _ _ c.record_prepared.ensures.journal (c.record_prepared-told.ensures.number ∙ (c.prepare-2.ensures.number ∙ c.prepare.ensures.number)) refl refl refl))

pub returns-in_err-next-clause-booked : goal.returns-in_err-next-clause-booked
returns-in_err-next-clause-booked g c =
    books_none g.R.Recorder.KEEPS c.args.seat.now c.prepare-2.new.seat _
    (c.prepare-2.ensures.number ∙ c.prepare.ensures.number)
    (c.prepare-2.ensures.start ∙ c.prepare.ensures.start)
    (c.prepare-2.ensures.seat_entries ∙ c.prepare.ensures.seat_entries)
    (c.prepare-2.ensures.seen ∙ c.prepare.ensures.seen)
    (first_of (search rules, grind arith))

pub returns-in_err-next-clause-alike : goal.returns-in_err-next-clause-alike
returns-in_err-next-clause-alike g c =
    let kept : c.self.inside.log.entries ≡ c.args.self.now.entries = spent_adds_none c.args.id c.args.self.now (record { role = c.self.inside.role; config = c.self.inside.config; session = c.self.inside.session; entries = c.self.inside.log.entries; journal = c.self.inside.log.journal; given = c.self.inside.given; unspent = c.self.inside.unspent; half_spent = c.self.inside.half_spent.keys; released = c.self.inside.released; ended = c.self.inside.ended }) (cc) in
    gained_none _ _ _ _ (c.prepare-2.ensures.entries ∙ c.prepare.ensures.entries ∙ kept) (c.prepare-2.ensures.seat_entries ∙ c.prepare.ensures.seat_entries)

pub returns-then-not-second-clause-alike : goal.returns-then-not-second-clause-alike
returns-then-not-second-clause-alike g c =
    let kept : c.self.inside.log.entries ≡ c.args.self.now.entries = spent_adds_none c.args.id c.args.self.now (record { role = c.self.inside.role; config = c.self.inside.config; session = c.self.inside.session; entries = c.self.inside.log.entries; journal = c.self.inside.log.journal; given = c.self.inside.given; unspent = c.self.inside.unspent; half_spent = c.self.inside.half_spent.keys; released = c.self.inside.released; ended = c.self.inside.ended }) (cc) in
    gained_one _ _ _ _ _ _ _ (c.prepare-2.ensures.entries ∙ c.prepare.ensures.entries ∙ kept) c.record_prepared-told.ensures.entries (c.prepare-2.ensures.seat_entries ∙ c.prepare.ensures.seat_entries) c.record_prepared-told.ensures.seat_entries
