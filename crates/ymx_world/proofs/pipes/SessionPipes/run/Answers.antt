use Rattle.std.proofs.Common.{◌+◌, List, take, subst, sym, ◌∙◌, ap, ◌++◌, ◌∷◌, [], arith}
use Rattle.std.proofs.lemmas.Grind.{common_steps}
use Rattle.ymx_model.specs.session.Emissions.{in_turn}
use Rattle.ymx_machine.specs.declared.types.Answer.{Answer}
use Rattle.ymx_model.specs.world.Worlds.{Runs}
use Rattle.ymx_world.proofs.Runs.{run_at}
use Rattle.ymx_world.proofs.pipes.SessionPipes.run.Goals as goal

pub loop-step-preserved : goal.loop-step-preserved
loop-step-preserved c = record {
  counted = grind (arith, common_steps);
  run =
      let pushed = c.push_reserved.ensures.items ∙ ap (λ (zs : List Answer). zs ++ c.in-Ok.answer ∷ []) c.reserve.ensures.items in
      subst (λ (zs : List Answer). Runs in_turn (take (c.loop-step.step-index + 1) c.args.steps.now) zs c.args.self.now c.step.new.self) (sym pushed)
      (run_at in_turn c.args.steps.now c.loop-step.answers.items c.loop-step.step-index c.step-item.result c.in-Ok.answer c.args.self.now c.loop-step.self c.step.new.self c.loop-step-test.true c.step-item.is c.loop-step.invariant.run c.in-Ok.ensures.steps);
}
