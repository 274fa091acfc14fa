use Rattle.std.proofs.Common.{refl}
use Rattle.ymx_engine.proofs.Attending.{runs_from}
use Rattle.ymx_engine.proofs.Entering.{runs_shut}
use Rattle.ymx_engine.proofs.tunnel.Tunnel.give_up_wire.Goals as goal

pub returns-clause-runs : goal.returns-clause-runs
returns-clause-runs g c = let e = c.lose.ensures in runs_from _ _ _ c.self.view_is (runs_shut _ _ _ refl refl c.shut.ensures e.event e.bytes e.wire e.connections e.serves)
