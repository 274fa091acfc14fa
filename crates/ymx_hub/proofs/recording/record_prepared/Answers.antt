use Rattle.std.proofs.Common.{Option, sym, subst}
use Rattle.ymx_machine.specs.shared.Events.{Reply}
use Rattle.ymx_seats.specs.Journals.{JournalView}
use Rattle.ymx_seats.specs.Views.{whole_of, journal_after}
use Rattle.ymx_hub.specs.WholeHistories.{IsHistoryOf}
use Rattle.ymx_hub.proofs.WholeHistories.{history_more, witnessed_of}
use Rattle.ymx_hub.proofs.recording.record_prepared.Goals as goal

pub add-requires-clause-history : goal.add-requires-clause-history
add-requires-clause-history g c =
    witnessed_of g.R.Recorder.WITNESSED g.R.Naming.role g.R.Naming.config _ c.apply-told.new.self
    (subst (λ (told : Reply). IsHistoryOf g.R.Recorder.WITNESSED g.R.Naming.role g.R.Naming.config (whole_of (journal_after c.args.seat.now.number c.args.event.now told c.args.log.now.journal)) c.apply-told.new.self) (sym c.with_bytes.ensures.reply)
    (history_more g.R.Recorder.WITNESSED g.R.Naming.role g.R.Naming.config c.args.log.now.journal c.args.session.now c.apply-told.new.self c.args.seat.now.number c.args.event.now _ c.requires.history c.apply-told.ensures.event))

pub returns-clause-history : goal.returns-clause-history
returns-clause-history g c =
    subst (λ (j : Option JournalView). IsHistoryOf g.R.Recorder.WITNESSED g.R.Naming.role g.R.Naming.config (whole_of j) c.apply-told.new.self) (sym c.add.ensures.journal)
    (subst (λ (told : Reply). IsHistoryOf g.R.Recorder.WITNESSED g.R.Naming.role g.R.Naming.config (whole_of (journal_after c.args.seat.now.number c.args.event.now told c.args.log.now.journal)) c.apply-told.new.self) (sym c.with_bytes.ensures.reply)
    (history_more g.R.Recorder.WITNESSED g.R.Naming.role g.R.Naming.config c.args.log.now.journal c.args.session.now c.apply-told.new.self c.args.seat.now.number c.args.event.now _ c.requires.history c.apply-told.ensures.event))
