-- The journal keeps its rights as a caller releases its reads.
use Rattle.std.proofs.Common.{ℕ, List, Option, sym, ap, subst}
use Rattle.ymx_seats.specs.Journals.{JournalView}
use Rattle.ymx_hub.specs.Booked.{Kept, IsJournaled}
use Rattle.ymx_hub.specs.Rights.{AllReleased}
use Rattle.ymx_hub.proofs.Journals.{journaled_released, all_listed}
use Rattle.ymx_hub.proofs.booked.Booked.list.Goals as goal

pub invariant_of-self : goal.invariant_of-self
invariant_of-self g c = (
  subst (λ es. Kept g.R.Recorder.KEEPS c.self.inside.ended c.self.inside.role c.self.inside.config es c.self.inside.session) (sym (ap (λ l. l.entries) c.release.ensures.log)) c.self.invariant.0,
  c.self.invariant.1,
  c.self.invariant.2,
  c.self.invariant.3,
  subst (λ (j : Option JournalView). IsJournaled g.R.Recorder.WITNESSED g.R.Naming.role g.R.Naming.config c.self.inside.role c.self.inside.config j c.self.inside.session c.self.inside.given) (sym (ap (λ l. l.journal) c.release.ensures.log))
      (journaled_released g.R.Recorder.WITNESSED g.R.Naming.role g.R.Naming.config c.self.inside.role c.self.inside.config c.self.inside.log.journal c.self.inside.session c.self.inside.given c.args.seat.now.number c.args.seat.now.right c.self.invariant.4 c.release.ensures.known),
  subst (λ (x : List ℕ × Option JournalView). AllReleased x.0 x.1) (λ i. (sym c.add.ensures i, sym (ap (λ l. l.journal) c.release.ensures.log) i))
      (all_listed g.R.Recorder.WITNESSED g.R.Naming.role g.R.Naming.config c.self.inside.role c.self.inside.config c.self.inside.log.journal c.self.inside.session c.self.inside.given c.args.seat.now.number c.args.id c.args.seat.now.right c.self.inside.released c.self.invariant.4 c.release.ensures.known c.self.invariant.5 c.requires.may),
)
