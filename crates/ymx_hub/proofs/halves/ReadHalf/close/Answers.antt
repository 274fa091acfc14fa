use Rattle.std.proofs.Common.{subst}
use Rattle.ymx_hub.specs.Books.{Books, Closes}
use Rattle.ymx_hub.specs.Halves.{HalfView}
use Rattle.ymx_hub.proofs.halves.ReadHalf.close.Goals as goal

pub returns-clause-booked : goal.returns-clause-booked
returns-clause-booked g c =
    subst (λ (v : HalfView). Books g.R.Recorder.KEEPS v.seat c.close_half-result.new.seat (Closes v.id v.seat.number c.close_half-result.result)) c.self.view_is c.close_half-result.ensures.booked
