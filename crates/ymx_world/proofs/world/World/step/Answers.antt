use Rattle.std.proofs.Common.{subst, sym}
use Rattle.ymx_model.specs.world.Worlds.{World}
use Rattle.ymx_headline.specs.Agrees.{Agrees}
use Rattle.ymx_model.specs.session.Emissions.{in_turn}
use Rattle.ymx_headline.proofs.runs.Runs.{follows}
use Rattle.ymx_world.proofs.Runs.{reached_if}
use Rattle.ymx_world.proofs.Headlines.{ok-then, step-sound}
use Rattle.ymx_world.proofs.Progress.{goes-forward}
use Rattle.ymx_world.specs.Progress.{GoesForward}
use Rattle.ymx_world.proofs.world.World.step.Goals as goal

pub invariant_of-self : goal.invariant_of-self
invariant_of-self c = reached_if c.step.result c.args.step.now _ c.step.new.self c.self.invariant c.step.ensures.steps c.step.ensures.same

pub returns-clause-machine : goal.returns-clause-machine
returns-clause-machine c =
    ok-then c.step.result _ _ (λ given s m h. follows in_turn _ given c.self.inside.pipes _ m s (subst (λ (z : World). Agrees z m) (sym c.self.view_is) h))
    c.step.ensures.steps

pub returns-clause-no_fault : goal.returns-clause-no_fault
returns-clause-no_fault c = ok-then c.step.result _ _ (λ given s. step-sound _ given c.self.inside.pipes _ c.self.invariant s) c.step.ensures.steps

pub returns-clause-forward : goal.returns-clause-forward
returns-clause-forward c =
    ok-then c.step.result _ _ (λ given s. subst (λ (z : World). GoesForward c.args.step.now given z) c.self.view_is
    (goes-forward _ given c.self.inside.pipes _ s (step-sound _ given c.self.inside.pipes _ c.self.invariant s))) c.step.ensures.steps
