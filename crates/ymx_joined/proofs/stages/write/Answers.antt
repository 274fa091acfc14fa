use Rattle.std.proofs.Common.{inl, inr, length}
use Rattle.ymx_machine.specs.shared.Evidence.{evidence}
use Rattle.ymx_machine.specs.declared.types.CallFault.TheVariants.{OutOfMemory}
use Rattle.ymx_machine.specs.declared.types.Wrote.TheVariants.{Took}
use Rattle.ymx_joined.proofs.Worlds.{writes-copy}
use Rattle.ymx_joined.proofs.Told.{wrote-fault, wrote-stands}
use Rattle.ymx_joined.proofs.stages.write.Goals as goal

pub call_refused-requires : goal.call_refused-requires
call_refused-requires c =
    wrote-fault c.in_ok-answer.answer c.in-Refused.fault _ _ c.in-Refused.is
    (writes-copy c.args.id c.in_ok-copy.copy c.args.bytes.now c.in_ok-answer.answer c.args.world.now c.step.new.self c.in_ok-copy.ensures c.requires c.in_ok-answer.ensures.steps c.in_ok-answer.ensures.machine)

pub returns-in-Wrote : goal.returns-in-Wrote
returns-in-Wrote c =
    wrote-stands c.in_ok-answer.answer c.in-Wrote.field-0 _ _ c.in-Wrote.is
    (writes-copy c.args.id c.in_ok-copy.copy c.args.bytes.now c.in_ok-answer.answer c.args.world.now c.step.new.self c.in_ok-copy.ensures c.requires c.in_ok-answer.ensures.steps c.in_ok-answer.ensures.machine)

pub unreachable-requires : goal.unreachable-requires
unreachable-requires c =
    elim (writes-copy c.args.id c.in_ok-copy.copy c.args.bytes.now c.in_ok-answer.answer c.args.world.now c.step.new.self c.in_ok-copy.ensures c.requires c.in_ok-answer.ensures.steps c.in_ok-answer.ensures.machine) [
      | inl made ↦ c.in_default.not-Wrote (Took (length c.args.bytes.now)) made.0
      | inr none ↦ c.in_default.not-Refused (OutOfMemory evidence) none
    ]
