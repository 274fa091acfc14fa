-- The steps of two sides joined by pipes, and what they answer (this project's own).
use Rattle.std.specs.Prelude.{length, Bool, true, false}
use Rattle.ymx_machine.specs.declared.types.Answer.{Answer}
use Rattle.ymx_machine.specs.shared.Events.{Reply}
use Rattle.ymx_machine.specs.declared.types.Side.TheVariants.{A, B}
use Rattle.ymx_machine.specs.declared.types.Direction.TheVariants.{AB, BA}
use Rattle.ymx_machine.specs.declared.types.Step.{Step}
use Rattle.ymx_machine.specs.declared.types.Answer.TheVariants as answer
use Rattle.ymx_machine.specs.declared.types.Reply.TheVariants as reply
use Rattle.ymx_machine.specs.declared.types.Step.TheVariants as step

-- what the world answers to a call that a session answered so
abbrev pub answer_of : Reply → Answer
answer_of (reply.Opened id) = answer.Opened id
answer_of (reply.OpenedWith id count) = answer.OpenedWith id count
answer_of (reply.Accepted id) = answer.Accepted id
answer_of (reply.Wrote wrote) = answer.Wrote wrote
answer_of (reply.Read bytes) = answer.Read bytes
answer_of reply.ReadEnd = answer.ReadEnd
answer_of reply.ReadWait = answer.ReadWait
answer_of reply.Done = answer.Done
answer_of (reply.Pinged n) = answer.Pinged n
answer_of (reply.Ponged back) = answer.Ponged back
answer_of (reply.Refused fault) = answer.Refused fault
answer_of (reply.Fed fed) = answer.Fed fed
answer_of (reply.Emitted out) = answer.Emitted (length out)

abbrev pub is_of_a : Step → Bool
is_of_a (step.At A call) = true
is_of_a (step.At B call) = false
is_of_a (step.Emit A room) = true
is_of_a (step.Emit B room) = false
is_of_a (step.Deliver AB n) = true
is_of_a (step.Deliver BA n) = false
is_of_a (step.Stop AB) = true
is_of_a (step.Stop BA) = false
is_of_a (step.End AB) = true
is_of_a (step.End BA) = false
