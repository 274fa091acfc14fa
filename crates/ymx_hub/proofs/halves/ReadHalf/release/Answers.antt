use Rattle.std.proofs.Common.{subst}
use Rattle.ymx_hub.specs.Halves.{HalfView}
use Rattle.ymx_hub.specs.Releasing.{Releases}
use Rattle.ymx_hub.specs.Shown.{BooksShown}
use Rattle.ymx_hub.proofs.halves.ReadHalf.release.Goals as goal

pub returns-clause-booked : goal.returns-clause-booked
returns-clause-booked g c =
    subst (λ (v : HalfView). BooksShown g.R.Recorder.KEEPS v.seat c.release-result.new.seat (Releases v.id v.seat.number c.release-result.result)) c.self.view_is c.release-result.ensures.booked
