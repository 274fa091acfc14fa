use Rattle.std.proofs.Common.{inl, inr, Some, None, ap, ◌∙◌}
use Rattle.ymx_machine.specs.declared.types.Answer.TheVariants as answer
use Rattle.ymx_joined.proofs.Worlds.{accepts}
use Rattle.ymx_joined.proofs.Told.{accepted-some, accepted-none}
use Rattle.ymx_joined.proofs.stages.accept.Goals as goal

pub returns-in-Some : goal.returns-in-Some
returns-in-Some c = λ id bytes h.
    accepted-some c.in_ok-answer.answer c.in-Some.id id c.args.no_memory bytes c.step.new.self (c.in-Accepted.is ∙ ap answer.Accepted c.in-Some.is)
    (accepts c.args.no_memory id bytes c.in_ok-answer.answer c.args.world.now c.step.new.self h c.in_ok-answer.ensures.steps c.in_ok-answer.ensures.machine)

pub stream_refused-requires : goal.stream_refused-requires
stream_refused-requires c =
    accepted-none c.in_ok-answer.answer c.requires.0 c.args.no_memory _ (c.in-Accepted.is ∙ ap answer.Accepted c.in-None.is)
    (accepts c.args.no_memory c.requires.0 c.requires.1 c.in_ok-answer.answer c.args.world.now c.step.new.self c.requires.2 c.in_ok-answer.ensures.steps c.in_ok-answer.ensures.machine)

pub unreachable-requires : goal.unreachable-requires
unreachable-requires c =
    elim (accepts c.args.no_memory c.requires.0 c.requires.1 c.in_ok-answer.answer c.args.world.now c.step.new.self c.requires.2 c.in_ok-answer.ensures.steps c.in_ok-answer.ensures.machine) [
      | inl made ↦ c.in_default.not-Accepted (Some c.requires.0) made.0
      | inr none ↦ c.in_default.not-Accepted None none.0
    ]
