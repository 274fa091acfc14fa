use Rattle.std.proofs.Common.{◌≡◌, rules, ◌∙◌, ℕ, ◌+◌, [], Option, Some, None, Ok, Err, length, refl, sym, ap, subst}
use Rattle.std.specs.Prelude.{Contains}
use Rattle.ymx_session.specs.Applied.{in_buffer}
use Rattle.ymx_hub.specs.Books.{IsFresh, GivesStream}
use Rattle.ymx_machine.specs.declared.types.Reply.TheVariants as reply
use Rattle.ymx_seats.specs.Journals.{JournalView}
use Rattle.ymx_seats.specs.Views.{SeatView, IsNewcomer, whole_of}
use Rattle.ymx_hub.specs.Booked.{Kept, IsJournaled}
use Rattle.ymx_hub.proofs.History.{kept_after}
use Rattle.ymx_hub.proofs.Entered.{entered}
use Rattle.ymx_hub.proofs.Books.{books_one, given_one, refused_one}
use Rattle.ymx_hub.proofs.Extends.{behind_at, journal_at, entries_at, after_at, kept_longer}
use Rattle.ymx_hub.specs.Rights.{AllReleased, handed_out}
use Rattle.ymx_hub.proofs.Journals.{journaled_given, all_after, all_handed_out, half_known}
use Rattle.ymx_hub.proofs.Rights.{asks_freely}
use Rattle.ymx_hub.proofs.WholeHistories.{witnessed_of}
use Rattle.ymx_hub.proofs.booked.Booked.give.Goals as goal

-- a new seat has made no call
fresh : (n : ℕ) (seat : SeatView) → seat.entries ≡ [] → seat.number ≡ n → IsNewcomer n seat.seen → IsFresh seat
fresh n seat none by new = (none, subst (λ (m : ℕ). IsNewcomer m seat.seen) (sym by) new)

pub hand_out-first-requires-clause-history : goal.hand_out-first-requires-clause-history
hand_out-first-requires-clause-history g c = witnessed_of g.R.Recorder.WITNESSED g.R.Naming.role g.R.Naming.config _ c.record_prepared-told.new.session c.record_prepared-told.ensures.history

pub invariant_of-self-in-Ok-Some : goal.invariant_of-self-in-Ok-Some
invariant_of-self-in-Ok-Some g c = (
  subst (λ es. Kept g.R.Recorder.KEEPS c.self.inside.ended c.self.inside.role c.self.inside.config es c.record_prepared-told.new.session) (sym (ap (λ l. l.entries) c.hand_out-first.ensures.log ∙ (after_at g.R.Recorder.KEEPS _ c.args.seat.now.number _ c.args.event.now _ (in_buffer c.record_prepared-told.new.buffer c.record_prepared-told.result) _ c.self.inside.log.entries _ c.record_prepared-told.ensures.entries c.prepare.ensures.number refl refl c.prepare.ensures.entries)))
      (kept_after g.R.Recorder.KEEPS c.self.inside.ended c.self.inside.role c.self.inside.config c.self.inside.log.entries c.self.inside.session c.record_prepared-told.new.session c.args.seat.now.number c.args.event.now (in_buffer c.record_prepared-told.new.buffer c.record_prepared-told.result) c.self.invariant.0 c.record_prepared-told.ensures.event),
  search rules,
  search rules,
  search rules,
  subst (λ (n : ℕ). IsJournaled g.R.Recorder.WITNESSED g.R.Naming.role g.R.Naming.config c.self.inside.role c.self.inside.config c.hand_out-first.new.log.journal c.record_prepared-told.new.session n) (sym c.hand_out-first.ensures.counted.0)
      (subst (λ (j : Option JournalView). IsJournaled g.R.Recorder.WITNESSED g.R.Naming.role g.R.Naming.config c.self.inside.role c.self.inside.config j c.record_prepared-told.new.session (c.self.inside.given + 2)) (sym (ap (λ l. l.journal) c.hand_out-first.ensures.log ∙ ap (handed_out c.in-Ok-Some.id) (journal_at _ c.args.seat.now.number _ c.args.event.now _ (in_buffer c.record_prepared-told.new.buffer c.record_prepared-told.result) _ c.self.inside.log.journal _ c.record_prepared-told.ensures.journal c.prepare.ensures.number refl refl c.prepare.ensures.journal)))
      (journaled_given g.R.Recorder.WITNESSED g.R.Naming.role g.R.Naming.config c.self.inside.role c.self.inside.config c.self.inside.log.journal c.self.inside.session c.record_prepared-told.new.session c.self.inside.given c.args.seat.now.number c.in-Ok-Some.id c.in-Ok-Some.taken c.args.event.now (in_buffer c.record_prepared-told.new.buffer c.record_prepared-told.result) c.args.seat.now.right c.self.inside.released c.self.invariant.4 c.record_prepared-told.ensures.event
      (half_known c.args.seat.now.number _ c.args.seat.now.right _ c.self.inside.log.journal _ c.prepare.ensures.number c.prepare.ensures.right c.prepare.ensures.journal c.record_prepared-told.ensures.known) c.self.invariant.5 (λ w. asks_freely (Contains c.self.inside.released) c.args.seat.now.right c.args.event.now c.requires)
      ((rw c.in-Ok-Some.field-0-is at c.in-Ok-Some.ensures) c.record_prepared-told.new.buffer))),
  subst (AllReleased c.self.inside.released) (sym (ap (λ l. l.journal) c.hand_out-first.ensures.log ∙ ap (handed_out c.in-Ok-Some.id) (journal_at _ c.args.seat.now.number _ c.args.event.now _ (in_buffer c.record_prepared-told.new.buffer c.record_prepared-told.result) _ c.self.inside.log.journal _ c.record_prepared-told.ensures.journal c.prepare.ensures.number refl refl c.prepare.ensures.journal)))
      (all_handed_out c.self.inside.released c.in-Ok-Some.id _ (all_after c.self.inside.released c.self.inside.log.journal c.args.seat.now.number c.args.event.now (in_buffer c.record_prepared-told.new.buffer c.record_prepared-told.result) c.self.invariant.5)),
)

pub returns-in-Ok-Some-clause-booked : goal.returns-in-Ok-Some-clause-booked
returns-in-Ok-Some-clause-booked g c =
    given_one g.R.Recorder.KEEPS c.args.seat.now c.record_prepared-told.new.seat c.hand_out-first.result.0 c.hand_out-first.result.1 c.args.event.now (in_buffer c.record_prepared-told.new.buffer c.record_prepared-told.result) (length c.prepare.new.self.entries) c.self.inside.log.journal (GivesStream c.args.event.now c.args.seat.now.number (Ok (Some (c.in-Ok-Some.id, c.in-Ok-Some.taken, c.hand_out-first.result.0, c.hand_out-first.result.1)))) (λ es given. ((in_buffer c.record_prepared-told.new.buffer c.record_prepared-told.result), (rw c.in-Ok-Some.field-0-is at c.in-Ok-Some.ensures) c.record_prepared-told.new.buffer, given))
    (c.record_prepared-told.ensures.number ∙ c.prepare.ensures.number) (c.record_prepared-told.ensures.start ∙ c.prepare.ensures.start)
    (entries_at g.R.Recorder.KEEPS _ _ _ _ c.args.event.now _ (in_buffer c.record_prepared-told.new.buffer c.record_prepared-told.result) _ _ _ c.record_prepared-told.ensures.seat_entries c.prepare.ensures.number refl refl c.prepare.ensures.seat_entries)
    (c.record_prepared-told.ensures.seen ∙ ap whole_of (journal_at _ c.args.seat.now.number _ c.args.event.now _ (in_buffer c.record_prepared-told.new.buffer c.record_prepared-told.result) _ c.self.inside.log.journal _ c.record_prepared-told.ensures.journal c.prepare.ensures.number refl refl c.prepare.ensures.journal))
    (behind_at _ _ _ _ _ _ c.prepare.ensures.number c.prepare.ensures.seen c.prepare.ensures.journal c.record_prepared-told.ensures.behind)
    (c.hand_out-first.ensures.first.3 ∙ ap whole_of (journal_at _ c.args.seat.now.number _ c.args.event.now _ (in_buffer c.record_prepared-told.new.buffer c.record_prepared-told.result) _ c.self.inside.log.journal _ c.record_prepared-told.ensures.journal c.prepare.ensures.number refl refl c.prepare.ensures.journal))
    (c.hand_out-first.ensures.second.3 ∙ ap whole_of (journal_at _ c.args.seat.now.number _ c.args.event.now _ (in_buffer c.record_prepared-told.new.buffer c.record_prepared-told.result) _ c.self.inside.log.journal _ c.record_prepared-told.ensures.journal c.prepare.ensures.number refl refl c.prepare.ensures.journal))
    (kept_longer g.R.Recorder.KEEPS _ _ _ _ c.hand_out-first.ensures.first.1 c.record_prepared-told.ensures.entries)
    (kept_longer g.R.Recorder.KEEPS _ _ _ _ c.hand_out-first.ensures.second.1 c.record_prepared-told.ensures.entries)
    (fresh _ c.hand_out-first.result.0 c.hand_out-first.ensures.first.2 c.hand_out-first.ensures.first.0 c.hand_out-first.ensures.first.4) (fresh _ c.hand_out-first.result.1 c.hand_out-first.ensures.second.2 c.hand_out-first.ensures.second.0 c.hand_out-first.ensures.second.4)

pub returns-in-Err-clause-booked : goal.returns-in-Err-clause-booked
returns-in-Err-clause-booked g c =
    let told = ap (in_buffer c.record_prepared-told.new.buffer) (rw c.in-Err.is at c.given_by.ensures) in
    refused_one g.R.Recorder.KEEPS c.args.seat.now c.record_prepared-told.new.seat c.args.event.now c.in-Err.fault c.hub_fault.result (length c.prepare.new.self.entries) c.self.inside.log.journal (GivesStream c.args.event.now c.args.seat.now.number (Err c.hub_fault.result)) (λ es x. x) c.hub_fault.ensures
    (c.record_prepared-told.ensures.number ∙ c.prepare.ensures.number) (c.record_prepared-told.ensures.start ∙ c.prepare.ensures.start)
    (entries_at g.R.Recorder.KEEPS _ _ _ _ c.args.event.now _ (reply.Refused c.in-Err.fault) _ _ _ c.record_prepared-told.ensures.seat_entries c.prepare.ensures.number refl (told) c.prepare.ensures.seat_entries)
    (c.record_prepared-told.ensures.seen ∙ ap whole_of (journal_at _ c.args.seat.now.number _ c.args.event.now _ (reply.Refused c.in-Err.fault) _ c.self.inside.log.journal _ c.record_prepared-told.ensures.journal c.prepare.ensures.number refl (told) c.prepare.ensures.journal))
    (behind_at _ _ _ _ _ _ c.prepare.ensures.number c.prepare.ensures.seen c.prepare.ensures.journal c.record_prepared-told.ensures.behind)

pub returns-in-Ok-None-clause-booked : goal.returns-in-Ok-None-clause-booked
returns-in-Ok-None-clause-booked g c =
    let told = ap (in_buffer c.record_prepared-told.new.buffer) (rw c.in-Ok-None.field-0-is at c.in-Ok-None.ensures).1 in
    books_one g.R.Recorder.KEEPS c.args.seat.now c.record_prepared-told.new.seat c.args.event.now (reply.Accepted None) (length c.prepare.new.self.entries) c.self.inside.log.journal (GivesStream c.args.event.now c.args.seat.now.number (Ok None))
    (c.record_prepared-told.ensures.number ∙ c.prepare.ensures.number) (c.record_prepared-told.ensures.start ∙ c.prepare.ensures.start)
    (entries_at g.R.Recorder.KEEPS _ _ _ _ c.args.event.now _ (reply.Accepted None) _ _ _ c.record_prepared-told.ensures.seat_entries c.prepare.ensures.number refl told c.prepare.ensures.seat_entries)
    (c.record_prepared-told.ensures.seen ∙ ap whole_of (journal_at _ c.args.seat.now.number _ c.args.event.now _ (reply.Accepted None) _ c.self.inside.log.journal _ c.record_prepared-told.ensures.journal c.prepare.ensures.number refl told c.prepare.ensures.journal))
    (behind_at _ _ _ _ _ _ c.prepare.ensures.number c.prepare.ensures.seen c.prepare.ensures.journal c.record_prepared-told.ensures.behind)
    (λ u. (length c.prepare.new.self.entries, refl))
    (λ p u. (p, refl))

pub invariant_of-self-in-Err : goal.invariant_of-self-in-Err
invariant_of-self-in-Err g c =
    let k = entered g.R.Recorder.KEEPS g.R.Recorder.WITNESSED c.self.inside.ended g.R.Naming.role g.R.Naming.config c.self.inside.role c.self.inside.config c.self.inside.log.entries _ _ c.self.inside.log.journal _ _
    c.self.inside.session c.record_prepared-told.new.session c.self.inside.given c.args.seat.now.number _ c.args.event.now (in_buffer c.record_prepared-told.new.buffer c.record_prepared-told.result) c.args.seat.now.right _ c.self.inside.released
    c.record_prepared-told.ensures.entries c.record_prepared-told.ensures.journal c.prepare.ensures.number c.prepare.ensures.entries c.prepare.ensures.journal c.prepare.ensures.right
    c.self.invariant.0 c.self.invariant.4 c.self.invariant.5 c.record_prepared-told.ensures.event c.record_prepared-told.ensures.known (λ w. asks_freely (Contains c.self.inside.released) c.args.seat.now.right c.args.event.now c.requires) in
    (k.0, search rules, search rules, search rules, k.1, k.2)

pub invariant_of-self-in-Ok-None : goal.invariant_of-self-in-Ok-None
invariant_of-self-in-Ok-None g c =
    let k = entered g.R.Recorder.KEEPS g.R.Recorder.WITNESSED c.self.inside.ended g.R.Naming.role g.R.Naming.config c.self.inside.role c.self.inside.config c.self.inside.log.entries _ _ c.self.inside.log.journal _ _
    c.self.inside.session c.record_prepared-told.new.session c.self.inside.given c.args.seat.now.number _ c.args.event.now (in_buffer c.record_prepared-told.new.buffer c.record_prepared-told.result) c.args.seat.now.right _ c.self.inside.released
    c.record_prepared-told.ensures.entries c.record_prepared-told.ensures.journal c.prepare.ensures.number c.prepare.ensures.entries c.prepare.ensures.journal c.prepare.ensures.right
    c.self.invariant.0 c.self.invariant.4 c.self.invariant.5 c.record_prepared-told.ensures.event c.record_prepared-told.ensures.known (λ w. asks_freely (Contains c.self.inside.released) c.args.seat.now.right c.args.event.now c.requires) in
    (k.0, search rules, search rules, search rules, k.1, k.2)
