use Rattle.ymx_law_session.proofs.due.Total.{gives-some}
use Rattle.ymx_law_session.proofs.every_event_answers.Goals as goal

pub returns : goal.returns
returns c = gives-some
