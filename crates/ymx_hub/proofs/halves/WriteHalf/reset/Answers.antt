use Rattle.std.proofs.Common.{subst}
use Rattle.ymx_hub.specs.Books.{Books, Spends, to_reset}
use Rattle.ymx_hub.specs.Halves.{HalfView}
use Rattle.ymx_hub.proofs.halves.WriteHalf.reset.Goals as goal

pub returns-clause-booked : goal.returns-clause-booked
returns-clause-booked g c =
    subst (λ (v : HalfView). Books g.R.Recorder.KEEPS v.seat c.reset-result.new.seat (Spends (to_reset v.id) v.id v.seat.number c.reset-result.result)) c.self.view_is c.reset-result.ensures.booked
