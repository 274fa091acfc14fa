use Rattle.std.proofs.Common.{◌<◌, ◌+◌, length, drop, subst, length-drop, arith, rules}
use Rattle.ymx_model.specs.world.Worlds.{Pipe}
use Rattle.ymx_model.specs.session.Emissions.{in_turn}
use Rattle.ymx_headline.specs.audit.Joints.{IsStuck}
use Rattle.ymx_headline.proofs.audit.OneRun.{are-one-run}
use Rattle.ymx_headline.proofs.audit.Orders.{are-answered}
use Rattle.ymx_world.proofs.Orders.{sound_start, whole_start, sound_on_a, sound_on_b, whole_on_a, whole_on_b, sound_same, whole_same, done_all, none_left}
use Rattle.ymx_world.proofs.world.World.audit.Goals.{then-i-a, else-i-a+then-j-b}
use Rattle.ymx_world.proofs.world.World.audit.Goals as goal

pub loop-i-init : goal.loop-i-init
loop-i-init c = record {
  within_a = omega arith;
  within_b = omega arith;
  sound = sound_start _ _ _ _ _ c.new-ab.ensures c.new-ba.ensures (search rules);
  whole = whole_start _ _ _ _ c.new-ab.ensures c.new-ba.ensures;
}

pub loop-i-preserved-then-first : goal.loop-i-preserved-then-first
loop-i-preserved-then-first c =
    let v = c.in_ok-first.ensures.taken (search rules) in
    let h = c.in_ok-first.ensures.within (search rules) in
    record {
      within_a = omega (arith, h);
      within_b = search rules;
      sound = sound_on_a c.args.a.now c.args.b.now c.loop-i.ab c.loop-i.ba c.try_next.new.to c.try_next.new.from (drop c.loop-i.i c.args.a.now) (drop (c.loop-i.i + 1) c.args.a.now) (drop c.loop-i.j c.args.b.now) c.loop-i.steps.items c.try_next.new.steps.items c.loop-i.invariant.sound v;
      whole = whole_on_a c.args.a.now c.args.b.now c.loop-i.ab c.loop-i.ba c.try_next.new.to c.try_next.new.from (drop c.loop-i.i c.args.a.now) (drop (c.loop-i.i + 1) c.args.a.now) (drop c.loop-i.j c.args.b.now) c.loop-i.steps.items c.try_next.new.steps.items c.loop-i.invariant.whole v;
    }

pub loop-i-preserved : goal.loop-i-preserved
loop-i-preserved c =
    let v = c.in_ok-second.ensures.taken (search rules) in
    let h = c.in_ok-second.ensures.within (search rules) in
    let e = c.in_ok-first.ensures.same (search rules) in
    let s = sound_same c.args.a.now c.args.b.now c.loop-i.ab c.loop-i.ba c.try_next.new.to c.try_next.new.from (drop c.loop-i.i c.args.a.now) (drop c.loop-i.j c.args.b.now) c.loop-i.steps.items c.try_next.new.steps.items e.1 e.0 e.2 c.loop-i.invariant.sound in
    let w = whole_same c.args.a.now c.args.b.now c.loop-i.ab c.loop-i.ba c.try_next.new.to c.try_next.new.from (drop c.loop-i.i c.args.a.now) (drop c.loop-i.j c.args.b.now) e.1 e.0 c.loop-i.invariant.whole in
    record {
      within_a = search rules;
      within_b = omega (arith, h);
      sound = sound_on_b c.args.a.now c.args.b.now c.try_next.new.to c.try_next.new.from c.try_next-else-first.new.from c.try_next-else-first.new.to (drop c.loop-i.i c.args.a.now) (drop c.loop-i.j c.args.b.now) (drop (c.loop-i.j + 1) c.args.b.now) c.try_next.new.steps.items c.try_next-else-first.new.steps.items s v;
      whole = whole_on_b c.args.a.now c.args.b.now c.try_next.new.to c.try_next.new.from c.try_next-else-first.new.from c.try_next-else-first.new.to (drop c.loop-i.i c.args.a.now) (drop c.loop-i.j c.args.b.now) (drop (c.loop-i.j + 1) c.args.b.now) c.try_next.new.steps.items c.try_next-else-first.new.steps.items w v;
    }

pub returns-then-not-second-clause-none : goal.returns-then-not-second-clause-none
returns-then-not-second-clause-none c =
    let e = c.in_ok-first.ensures.same (search rules) in
    let s = c.in_ok-first.ensures.stuck (search rules) in
    let t = c.in_ok-second.ensures.stuck (search rules) in
    let n : 0 < length (drop c.loop-i.i c.args.a.now) + length (drop c.loop-i.j c.args.b.now) = elim c.if-i-a.branch [ then-i-a w ↦ (let h = w.if-i-a.true in omega (arith, h, length-drop c.loop-i.i c.args.a.now)) | else-i-a+then-j-b w ↦ (let h = w.if-j-b.true in omega (arith, h, length-drop c.loop-i.j c.args.b.now)) ] in
    none_left c.args.a.now c.args.b.now c.loop-i.ab c.loop-i.ba (drop c.loop-i.i c.args.a.now) (drop c.loop-i.j c.args.b.now) c.loop-i.invariant.whole s (subst (λ (p : Pipe). IsStuck p (drop c.loop-i.j c.args.b.now)) e.1 t) n

pub returns-clause-some : goal.returns-clause-some
returns-clause-some c = done_all c.args.a.now c.args.b.now c.loop-i.ab c.loop-i.ba c.loop-i.i c.loop-i.j c.loop-i.steps.items c.if-i-a.false c.if-j-b.false c.loop-i.invariant.sound

pub returns-clause-answered : goal.returns-clause-answered
returns-clause-answered c = are-answered in_turn c.args.a.now c.args.b.now c.loop-i.steps.items

pub returns-clause-one_run : goal.returns-clause-one_run
returns-clause-one_run c = are-one-run in_turn c.args.a.now c.args.b.now c.loop-i.steps.items (done_all c.args.a.now c.args.b.now c.loop-i.ab c.loop-i.ba c.loop-i.i c.loop-i.j c.loop-i.steps.items c.if-i-a.false c.if-j-b.false c.loop-i.invariant.sound)
