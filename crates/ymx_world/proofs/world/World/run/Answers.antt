use Rattle.std.proofs.Common.{subst, take, length}
use Rattle.ymx_headline.proofs.runs.Runs.{runs-alike}
use Rattle.ymx_model.specs.session.Emissions.{in_turn}
use Rattle.ymx_model.specs.world.Worlds.{World, Runs}
use Rattle.ymx_world.specs.Reached.{IsReached}
use Rattle.ymx_world.proofs.Bounds.{is-bounded}
use Rattle.ymx_world.proofs.Headlines.{ok-then, err-then, either-way, reached-sound}
use Rattle.ymx_world.proofs.Runs.{reached_along}
use Rattle.ymx_world.proofs.world.World.run.Goals as goal

pub invariant_of-self : goal.invariant_of-self
invariant_of-self c =
    either-way c.run.result _ _ _ (λ answers run. reached_along _ _ _ _ c.self.invariant run) (λ stopped run. reached_along _ _ _ _ c.self.invariant run)
    c.run.ensures.runs c.run.ensures.stopped

pub returns-clause-headline : goal.returns-clause-headline
returns-clause-headline c =
    ok-then c.run.result _ _ (λ answers run m h.
    runs-alike in_turn _ _ _ _ m (subst (λ (w : World). Runs in_turn c.args.steps.now answers.items w c.run.new.self) c.self.view_is run) h) c.run.ensures.runs

pub returns-clause-headline_so_far : goal.returns-clause-headline_so_far
returns-clause-headline_so_far c =
    err-then c.run.result _ _ (λ stopped run m h.
    runs-alike in_turn _ _ _ _ m (subst (λ (w : World). Runs in_turn (take (length stopped.answers.items) c.args.steps.now) stopped.answers.items w c.run.new.self) c.self.view_is run) h)
    c.run.ensures.stopped

pub returns-clause-bounded : goal.returns-clause-bounded
returns-clause-bounded c =
    ok-then c.run.result _ _ (λ answers run on each.
    is-bounded _ _ _ _ (subst IsReached c.self.view_is c.self.invariant) on each
    (subst (λ (w : World). Runs in_turn c.args.steps.now answers.items w c.run.new.self) c.self.view_is run)) c.run.ensures.runs

pub returns-clause-bounded_so_far : goal.returns-clause-bounded_so_far
returns-clause-bounded_so_far c =
    err-then c.run.result _ _ (λ stopped run on each.
    is-bounded _ _ _ _ (subst IsReached c.self.view_is c.self.invariant) on each
    (subst (λ (w : World). Runs in_turn (take (length stopped.answers.items) c.args.steps.now) stopped.answers.items w c.run.new.self) c.self.view_is run))
    c.run.ensures.stopped

pub returns-clause-no_fault : goal.returns-clause-no_fault
returns-clause-no_fault c =
    ok-then c.run.result _ _ (λ answers run. reached-sound c.args.steps.now answers.items c.self.inside.pipes _ c.self.invariant run) c.run.ensures.runs

pub returns-clause-no_fault_so_far : goal.returns-clause-no_fault_so_far
returns-clause-no_fault_so_far c =
    err-then c.run.result _ _ (λ stopped run. reached-sound (take (length stopped.answers.items) c.args.steps.now) stopped.answers.items c.self.inside.pipes _ c.self.invariant run)
    c.run.ensures.stopped
