use Rattle.std.proofs.Common.{inl, inr}
use Rattle.ymx_machine.specs.shared.Evidence.{evidence}
use Rattle.ymx_machine.specs.declared.types.CallFault.TheVariants.{OutOfMemory}
use Rattle.ymx_joined.proofs.Worlds.{opens}
use Rattle.ymx_joined.proofs.Told.{opened-fault, opened-stands}
use Rattle.ymx_joined.proofs.stages.open.Goals as goal

pub call_refused-requires : goal.call_refused-requires
call_refused-requires c =
    opened-fault c.in_ok-answer.answer c.in-Refused.fault _ c.in-Refused.is
    (opens c.in_ok-answer.answer c.args.world.now c.step.new.self c.requires c.in_ok-answer.ensures.steps c.in_ok-answer.ensures.machine)

pub returns-in-Opened : goal.returns-in-Opened
returns-in-Opened c =
    opened-stands c.in_ok-answer.answer c.in-Opened.id c.step.new.self c.in-Opened.is
    (opens c.in_ok-answer.answer c.args.world.now c.step.new.self c.requires c.in_ok-answer.ensures.steps c.in_ok-answer.ensures.machine)

pub unreachable-requires : goal.unreachable-requires
unreachable-requires c =
    elim (opens c.in_ok-answer.answer c.args.world.now c.step.new.self c.requires c.in_ok-answer.ensures.steps c.in_ok-answer.ensures.machine) [
      | inl made ↦ c.in_default.not-Opened 1 made.0
      | inr none ↦ c.in_default.not-Refused (OutOfMemory evidence) none
    ]
