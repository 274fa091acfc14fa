use Rattle.std.proofs.Common.{arith, ◌≤◌, ◌+◌, length, ◌∙◌}
use Rattle.std.proofs.lemmas.Grind.{common_steps}
use Rattle.ymx_model.proofs.Pushed.{pushed_more}
use Rattle.ymx_model.proofs.pushing.push_all.Goals as goal

pub push-preserved : goal.push-preserved
push-preserved g c =
    let fits : c.push.taken + c.in-Ok.count ≤ length c.args.bytes.now = grind (arith, common_steps) in
    (fits, pushed_more _ _ _ _ _ _ c.push.invariant.1 c.in-Ok.ensures.moved, c.in-Ok.ensures.counted.0 ∙ c.push.invariant.2)
