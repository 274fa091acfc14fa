use Rattle.std.proofs.Common.{refl}
use Rattle.ymx_session.specs.Replies.{pinged_or}
use Rattle.ymx_engine.proofs.Attending.{runs_from}
use Rattle.ymx_engine.proofs.Entering.{runs_pinged}
use Rattle.ymx_engine.proofs.tunnel.Tunnel.ping.Goals as goal

pub returns-clause-runs : goal.returns-clause-runs
returns-clause-runs g c = runs_from _ _ _ c.self.view_is (runs_pinged _ _ (pinged_or c.ping.result) c.ping.ensures.event (record { outgoing = refl; incoming = refl }) refl refl)
