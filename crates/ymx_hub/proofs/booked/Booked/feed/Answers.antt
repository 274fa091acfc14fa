use Rattle.std.proofs.Common.{◌∙◌, length, ap}
use Rattle.ymx_model.specs.declared.types.Event.TheVariants as event
use Rattle.ymx_machine.specs.declared.types.Reply.TheVariants as reply
use Rattle.ymx_seats.specs.Views.{whole_of}
use Rattle.ymx_hub.proofs.Books.{does_one}
use Rattle.ymx_hub.proofs.Extends.{behind_at, journal_at, entries_at}
use Rattle.ymx_hub.proofs.Journals.{witnessed_by}
use Rattle.ymx_hub.proofs.booked.Booked.feed.Goals as goal

pub add-requires-clause-history : goal.add-requires-clause-history
add-requires-clause-history g c =
    witnessed_by g.R.Recorder.WITNESSED g.R.Naming.role g.R.Naming.config c.self.inside.role c.self.inside.config c.self.inside.log.journal _ c.self.inside.session _ c.self.inside.given _ _ (event.Feed c.args.bytes.now) _ (reply.Fed c.feed_touching-fed.result)
    c.prepare.ensures.journal (ap event.Feed c.new.ensures) c.told.ensures.reply c.self.invariant.4 c.feed_touching-fed.ensures.event

pub returns-clause-booked : goal.returns-clause-booked
returns-clause-booked g c =
    does_one g.R.Recorder.KEEPS c.args.seat.now c.add.new.seat (event.Feed c.args.bytes.now) reply.Fed (length c.prepare.new.self.entries) c.self.inside.log.journal c.feed_touching-fed.result
    (c.add.ensures.number ∙ c.prepare.ensures.number) (c.add.ensures.start ∙ c.prepare.ensures.start)
    (entries_at g.R.Recorder.KEEPS _ _ _ _ (event.Feed c.args.bytes.now) _ (reply.Fed c.feed_touching-fed.result) _ _ _ c.add.ensures.seat_entries c.prepare.ensures.number (ap event.Feed c.new.ensures) c.told.ensures.reply c.prepare.ensures.seat_entries)
    (c.add.ensures.seen ∙ ap whole_of (journal_at _ c.args.seat.now.number _ (event.Feed c.args.bytes.now) _ (reply.Fed c.feed_touching-fed.result) _ c.self.inside.log.journal _ c.add.ensures.journal c.prepare.ensures.number (ap event.Feed c.new.ensures) c.told.ensures.reply c.prepare.ensures.journal))
    (behind_at _ _ _ _ _ _ c.prepare.ensures.number c.prepare.ensures.seen c.prepare.ensures.journal c.add.ensures.behind)
