use Rattle.ymx_headline.proofs.machine.order.Others.{one-answer}
use Rattle.ymx_headline.proofs.queue_machine.one_answer.Goals as goal

pub returns : goal.returns
returns c = λ call m n k r other h h' d. one-answer call m r other n k h h' d
