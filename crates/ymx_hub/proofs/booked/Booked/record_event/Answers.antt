use Rattle.std.proofs.Common.{◌≡◌, ◌∙◌, ℕ, List, length, refl, ap, subst, rules}
use Rattle.std.specs.Prelude.{Contains}
use Rattle.ymx_machine.specs.declared.types.Reply.{Reply as ReplyOf}
use Rattle.ymx_session.specs.Applied.{in_buffer}
use Rattle.ymx_seats.specs.Views.{whole_of}
use Rattle.ymx_hub.specs.Rights.{MayDo}
use Rattle.ymx_hub.proofs.Entered.{entered}
use Rattle.ymx_hub.proofs.Books.{does_one}
use Rattle.ymx_hub.proofs.Extends.{behind_at, journal_at, entries_at}
use Rattle.ymx_hub.proofs.booked.Booked.record_event.Goals as goal

pub returns-clause-booked : goal.returns-clause-booked
returns-clause-booked g c =
    does_one {A = ReplyOf ℕ} g.R.Recorder.KEEPS c.args.seat.now c.record_prepared-told.new.seat c.args.event.now (in_buffer c.record_prepared-told.new.buffer) (length c.prepare.new.self.entries) c.self.inside.log.journal c.record_prepared-told.result
    (c.record_prepared-told.ensures.number ∙ c.prepare.ensures.number) (c.record_prepared-told.ensures.start ∙ c.prepare.ensures.start)
    (entries_at g.R.Recorder.KEEPS _ _ _ _ c.args.event.now _ (in_buffer c.record_prepared-told.new.buffer c.record_prepared-told.result) _ _ _ c.record_prepared-told.ensures.seat_entries c.prepare.ensures.number refl refl c.prepare.ensures.seat_entries)
    (c.record_prepared-told.ensures.seen ∙ ap whole_of (journal_at _ c.args.seat.now.number _ c.args.event.now _ (in_buffer c.record_prepared-told.new.buffer c.record_prepared-told.result) _ c.self.inside.log.journal _ c.record_prepared-told.ensures.journal c.prepare.ensures.number refl refl c.prepare.ensures.journal))
    (behind_at _ _ _ _ _ _ c.prepare.ensures.number c.prepare.ensures.seen c.prepare.ensures.journal c.record_prepared-told.ensures.behind)

pub invariant_of-self-2 : goal.invariant_of-self-2
invariant_of-self-2 g c =
    let same : c.args.self.now.released ≡ c.self.inside.released = search rules in
    let k = entered g.R.Recorder.KEEPS g.R.Recorder.WITNESSED c.self.inside.ended g.R.Naming.role g.R.Naming.config c.self.inside.role c.self.inside.config c.self.inside.log.entries _ _ c.self.inside.log.journal _ _
    c.self.inside.session c.record_prepared-told.new.session c.self.inside.given c.args.seat.now.number _ c.args.event.now (in_buffer c.record_prepared-told.new.buffer c.record_prepared-told.result) c.args.seat.now.right _ c.self.inside.released
    c.record_prepared-told.ensures.entries c.record_prepared-told.ensures.journal c.prepare.ensures.number c.prepare.ensures.entries c.prepare.ensures.journal c.prepare.ensures.right
    c.self.invariant.0 c.self.invariant.4 c.self.invariant.5 c.record_prepared-told.ensures.event c.record_prepared-told.ensures.known (λ w. subst (λ (ids : List ℕ). MayDo (Contains ids) c.args.seat.now.right c.args.event.now) same (c.requires.may w)) in
    (k.0, search rules, search rules, search rules, k.1, k.2)
