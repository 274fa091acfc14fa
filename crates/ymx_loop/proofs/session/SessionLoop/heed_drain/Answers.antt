use Rattle.ymx_engine.proofs.Attending.{runs_same}
use Rattle.ymx_loop.proofs.session.SessionLoop.heed_drain.Goals as goal

pub returns-else-not-self : goal.returns-else-not-self
returns-else-not-self g c = runs_same _
