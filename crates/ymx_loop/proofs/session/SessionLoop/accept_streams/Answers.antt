use Rattle.ymx_engine.proofs.Attending.{runs_same, runs_then}
use Rattle.ymx_loop.proofs.session.SessionLoop.accept_streams.Goals as goal

pub offered-init : goal.offered-init
offered-init g c = runs_same _

pub offered-preserved : goal.offered-preserved
offered-preserved g c = runs_then _ _ _ c.offered.invariant c.begin_stream.ensures
