use Rattle.std.proofs.Common.{◌∙◌, ap}
use Rattle.ymx_engine.proofs.Attending.{runs_same, runs_then}
use Rattle.ymx_model.specs.session.Sessions.{is_running}
use Rattle.ymx_loop.proofs.session.SessionLoop.leave_all.Goals as goal

pub left-init : goal.left-init
left-init g c = (runs_same _, c.requires)

pub left-preserved : goal.left-preserved
left-preserved g c = (runs_then _ _ _ c.left.invariant.0 c.forget.ensures.runs, ap is_running c.forget.ensures.status ∙ c.left.invariant.1)
