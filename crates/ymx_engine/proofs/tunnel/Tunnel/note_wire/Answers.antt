use Rattle.std.proofs.Common.{refl}
use Rattle.ymx_engine.proofs.Attending.{runs_from}
use Rattle.ymx_engine.proofs.Entering.{runs_wire_noted}
use Rattle.ymx_engine.proofs.tunnel.Tunnel.note_wire.Goals as goal

pub returns-clause-runs : goal.returns-clause-runs
returns-clause-runs g c = runs_from _ _ _ c.self.view_is (runs_wire_noted _ _ c.args.ready refl c.note_event.ensures refl)
