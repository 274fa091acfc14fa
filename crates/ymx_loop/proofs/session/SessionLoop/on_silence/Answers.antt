use Rattle.ymx_engine.proofs.Attending.{runs_same}
use Rattle.ymx_loop.proofs.session.SessionLoop.on_silence.Goals as goal

pub returns-then-is_lost : goal.returns-then-is_lost
returns-then-is_lost g c = runs_same _

pub returns-in_err-silence : goal.returns-in_err-silence
returns-in_err-silence g c = runs_same _

pub returns-in-In : goal.returns-in-In
returns-in-In g c = runs_same _
