use Rattle.std.proofs.Common.{refl}
use Rattle.ymx_session.specs.Replies.{done_or}
use Rattle.ymx_engine.proofs.Attending.{runs_from}
use Rattle.ymx_engine.proofs.Entering.{runs_went_away}
use Rattle.ymx_engine.proofs.tunnel.Tunnel.go_away.Goals as goal

pub returns-clause-runs : goal.returns-clause-runs
returns-clause-runs g c = runs_from _ _ _ c.self.view_is (runs_went_away _ _ (done_or c.go_away.result) c.go_away.ensures.event (record { outgoing = refl; incoming = refl }) refl refl)
