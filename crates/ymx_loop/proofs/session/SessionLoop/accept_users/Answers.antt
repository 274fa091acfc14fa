use Rattle.ymx_engine.proofs.Attending.{runs_same, runs_then}
use Rattle.ymx_loop.proofs.session.SessionLoop.accept_users.Goals as goal

pub accept-init : goal.accept-init
accept-init g c = runs_same _

pub accept-preserved : goal.accept-preserved
accept-preserved g c = runs_then _ _ _ c.accept.invariant c.begin_user.ensures
