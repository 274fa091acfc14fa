use Rattle.ymx_engine.proofs.Attending.{runs_same}
use Rattle.ymx_loop.proofs.session.SessionLoop.note.Goals as goal

pub returns-in-Link : goal.returns-in-Link
returns-in-Link g c = runs_same _

pub returns-in-Users : goal.returns-in-Users
returns-in-Users g c = runs_same _

pub returns-in_default : goal.returns-in_default
returns-in_default g c = runs_same _
