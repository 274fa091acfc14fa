use Rattle.std.proofs.Common.{refl}
use Rattle.ymx_session.specs.Replies.{ponged_or}
use Rattle.ymx_engine.proofs.Attending.{runs_from}
use Rattle.ymx_engine.proofs.Entering.{runs_ponged}
use Rattle.ymx_engine.proofs.tunnel.Tunnel.ponged.Goals as goal

pub returns-clause-runs : goal.returns-clause-runs
returns-clause-runs g c = runs_from _ _ _ c.self.view_is (runs_ponged _ _ c.args.number (ponged_or c.ponged.result) c.ponged.ensures.event (record { outgoing = refl; incoming = refl }) refl refl)
