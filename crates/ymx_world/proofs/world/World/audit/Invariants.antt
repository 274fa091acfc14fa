use Rattle.std.proofs.Common.{◌≤◌, ◌+◌, ◌-◌, length, drop}
use Rattle.ymx_world.proofs.Orders.{Sound, Whole}
use Rattle.ymx_world.proofs.world.World.audit.Given as goal

abbrev pub invariant-loop-i : goal.invariant-loop-i
invariant-loop-i l = record {
  within_a : l.i ≤ length l.a;
  within_b : l.j ≤ length l.b;
  sound : Sound l.a l.b l.ab l.ba (drop l.i l.a) (drop l.j l.b) l.steps.items;
  whole : Whole l.a l.b l.ab l.ba (drop l.i l.a) (drop l.j l.b);
}

abbrev pub decreases-loop-i : goal.decreases-loop-i
decreases-loop-i l = (length l.a - l.i) + (length l.b - l.j)
