use Rattle.ymx_joined.proofs.Worlds.{finishes}
use Rattle.ymx_joined.proofs.stages.finish.Goals as goal

pub unreachable-requires : goal.unreachable-requires
unreachable-requires c =
    c.in_default.not-Done
    (finishes c.args.id c.requires.0 c.in_ok-answer.answer c.args.world.now c.step.new.self c.requires.1 c.in_ok-answer.ensures.steps c.in_ok-answer.ensures.machine).0

pub returns : goal.returns
returns c = λ bytes h. (finishes c.args.id bytes c.in_ok-answer.answer c.args.world.now c.step.new.self h c.in_ok-answer.ensures.steps c.in_ok-answer.ensures.machine).1
