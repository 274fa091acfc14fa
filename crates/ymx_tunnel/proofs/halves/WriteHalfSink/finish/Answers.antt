use Rattle.ymx_tunnel.proofs.Telling.{finish_kept}
use Rattle.ymx_tunnel.proofs.halves.WriteHalfSink.finish.Goals as goal

pub returns-clause-kept : goal.returns-clause-kept
returns-clause-kept g c = finish_kept _ _ _ _ _ c.finish.ensures.booked
