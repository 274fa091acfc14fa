use Rattle.ymx_engine.proofs.Attending.{runs_same}
use Rattle.ymx_loop.proofs.session.SessionLoop.end_lost_wire.Goals as goal

pub returns-else-is_lost : goal.returns-else-is_lost
returns-else-is_lost g c = runs_same _
