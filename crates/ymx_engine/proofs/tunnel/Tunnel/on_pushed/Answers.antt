use Rattle.std.proofs.Common.{refl}
use Rattle.ymx_engine.proofs.Flushing.{hears_none, hears_lost}
use Rattle.ymx_engine.proofs.Queueing.{keeps_same}
use Rattle.ymx_engine.proofs.tunnel.Tunnel.on_pushed.Goals as goal

pub returns-in-Took : goal.returns-in-Took
returns-in-Took g c = record { heard = hears_none c.args.pushed _ c.in-Took.is; waits = refl; memory = refl; wire = refl; connections = keeps_same _; serves = λ s. s }

pub returns-in-Failed-clause-heard : goal.returns-in-Failed-clause-heard
returns-in-Failed-clause-heard g c = hears_lost c.args.pushed _ _ c.in-Failed.is c.lose.ensures.event c.lose.ensures.bytes
