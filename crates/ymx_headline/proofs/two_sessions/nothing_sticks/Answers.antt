use Rattle.ymx_headline.proofs.two_sessions.nothing_sticks.Goals as goal
use Rattle.ymx_machine.specs.shared.Limits.{data_limit}
use Rattle.ymx_model.specs.session.Emissions.{in_turn}
use Rattle.ymx_headline.proofs.bounds.Loads.{any-order, turn-order}
use Rattle.ymx_headline.proofs.bounds.Bound.{bound}
use Rattle.ymx_headline.proofs.bounds.OneAnswer.{one-answer, none-to-an_answer}
use Rattle.ymx_headline.proofs.bounds.Progress.{goes-on}
use Rattle.ymx_headline.proofs.bounds.Potential.{potential_of}
use Rattle.ymx_headline.proofs.bounds.Driving.{ends}

pub returns-clause-goes_on : goal.returns-clause-goes_on
returns-clause-goes_on c = λ w h o n. let k = goes-on w h o n in (k.st, k.given, k.next, k.steps, k.bytes_carried)

pub returns-clause-bounded : goal.returns-clause-bounded
returns-clause-bounded c = λ may. bound 1 may (any-order may)

pub returns-clause-bounded_in_turn : goal.returns-clause-bounded_in_turn
returns-clause-bounded_in_turn c = bound data_limit in_turn turn-order

pub returns-clause-one_answer : goal.returns-clause-one_answer
returns-clause-one_answer c = one-answer

pub returns-clause-none_to_an_answer : goal.returns-clause-none_to_an_answer
returns-clause-none_to_an_answer c = none-to-an_answer

pub returns-clause-ends : goal.returns-clause-ends
returns-clause-ends c = λ may w m a fr o. (potential_of w, λ steps answers v k. ends may steps answers w v m a fr o k)
