use Rattle.std.proofs.Common.{◌≡◌, ◌+◌, true, false, [], min, rules, subst, sym, ◌∙◌, ap}
use Rattle.ymx_machine.specs.shared.Limits.{greatest_number}
use Rattle.ymx_model.specs.session.Emissions.{is_ready}
use Rattle.ymx_world.specs.Reached.{IsReached}
use Rattle.ymx_world.specs.Driven.{is_open_world}
use Rattle.ymx_world.proofs.Driving.{open-world, one-carriage, carried-none, carried-more, reached-carried, driven-still}
use Rattle.ymx_world.proofs.world.World.drive.Goals as goal

pub returns-then-not-is_open-clause-carried : goal.returns-then-not-is_open-clause-carried
returns-then-not-is_open-clause-carried c = carried-none c.zero-no_memory.result c.args.self.now c.zero-no_memory.ensures (subst IsReached c.self.view_is c.self.invariant)

pub loop-step-init : goal.loop-step-init
loop-step-init c =
    let is_open : is_open_world c.args.self.now ≡ true = sym (c.is_open.ensures ∙ ap is_open_world c.self.view_is) ∙ c.if-not-is_open.false in
    record { open_still = open-world c.args.self.now is_open; carried = carried-none c.zero-no_memory.result c.args.self.now c.zero-no_memory.ensures (subst IsReached c.self.view_is c.self.invariant) }

pub loop-step-smaller : goal.loop-step-smaller
loop-step-smaller c =
    let reached = reached-carried c.loop-step.no_memory c.args.self.now c.loop-step.self (subst IsReached c.self.view_is c.self.invariant) c.loop-step.invariant.carried in
    (one-carriage c.in-Some.step c.in_ok-answer.answer c.loop-step.self c.step.new.self reached c.loop-step.invariant.open_still c.in-Some.ensures.some c.in_ok-answer.ensures.forward c.in_ok-answer.ensures.no_fault c.in_ok-answer.ensures.steps).less

pub loop-step-preserved : goal.loop-step-preserved
loop-step-preserved c =
    let first = subst IsReached c.self.view_is c.self.invariant in
    let reached = reached-carried c.loop-step.no_memory c.args.self.now c.loop-step.self first c.loop-step.invariant.carried in
    let one = one-carriage c.in-Some.step c.in_ok-answer.answer c.loop-step.self c.step.new.self reached c.loop-step.invariant.open_still c.in-Some.ensures.some c.in_ok-answer.ensures.forward c.in_ok-answer.ensures.no_fault c.in_ok-answer.ensures.steps in
    record { open_still = one.on; carried = carried-more c.loop-step.no_memory c.add_all.new.self c.args.self.now c.loop-step.self c.step.new.self c.in-Some.step c.in_ok-answer.answer first c.loop-step.invariant.carried c.in_ok-answer.ensures.steps one (c.add_all.ensures ∙ ap (λ n. min (c.loop-step.no_memory + n) greatest_number) c.refused_by.ensures) }

pub returns-clause-still : goal.returns-clause-still
returns-clause-still c = λ e m a.
    let due : (is_ready c.loop-step.self.a ≡ false) × (is_ready c.loop-step.self.b ≡ false) = search rules in
    let under : (c.loop-step.self.ab.bytes ≡ []) × (c.loop-step.self.ba.bytes ≡ []) = search rules in
    driven-still c.loop-step.self c.loop-step.invariant.open_still due under m a
