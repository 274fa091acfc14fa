use Rattle.std.proofs.Common.{subst}
use Rattle.ymx_hub.specs.Books.{Books, Spends, to_finish}
use Rattle.ymx_hub.specs.Halves.{HalfView}
use Rattle.ymx_hub.proofs.halves.WriteHalf.finish.Goals as goal

pub returns-clause-booked : goal.returns-clause-booked
returns-clause-booked g c =
    subst (λ (v : HalfView). Books g.R.Recorder.KEEPS v.seat c.finish-result.new.seat (Spends (to_finish v.id) v.id v.seat.number c.finish-result.result)) c.self.view_is c.finish-result.ensures.booked
