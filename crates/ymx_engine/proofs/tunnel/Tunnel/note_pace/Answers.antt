use Rattle.std.proofs.Common.{refl}
use Rattle.ymx_engine.proofs.Attending.{runs_from}
use Rattle.ymx_engine.proofs.Entering.{runs_unmoved}
use Rattle.ymx_engine.proofs.tunnel.Tunnel.note_pace.Goals as goal

pub returns-clause-runs : goal.returns-clause-runs
returns-clause-runs g c = runs_from _ _ _ c.self.view_is (runs_unmoved _ _ refl refl refl)
