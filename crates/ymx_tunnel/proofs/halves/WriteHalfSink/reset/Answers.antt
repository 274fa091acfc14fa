use Rattle.ymx_tunnel.proofs.Telling.{reset_kept}
use Rattle.ymx_tunnel.proofs.halves.WriteHalfSink.reset.Goals as goal

pub returns-clause-kept : goal.returns-clause-kept
returns-clause-kept g c = reset_kept _ _ _ _ _ c.reset.ensures.booked
