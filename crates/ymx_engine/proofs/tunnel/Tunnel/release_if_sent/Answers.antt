use Rattle.ymx_engine.proofs.Queueing.{keeps_same}
use Rattle.ymx_engine.proofs.tunnel.Tunnel.release_if_sent.Goals as goal

pub returns-else-is_empty-clause-keeps : goal.returns-else-is_empty-clause-keeps
returns-else-is_empty-clause-keeps g c = keeps_same _
