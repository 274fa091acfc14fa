use Rattle.std.proofs.Common.{◌≡◌, ◌≤◌, ◌-◌, length, take}
use Rattle.std.specs.Io.KnownBytes.{Appends}
use Rattle.ymx_model.proofs.pushing.push_all.Given as goal

abbrev pub invariant-push : goal.invariant-push
invariant-push g l =
    (l.taken ≤ length l.bytes) × Appends (g.O.Outlet.contents l.initial.outlet) (g.O.Outlet.contents l.outlet) (take l.taken l.bytes)
    × (g.O.Outlet.failures l.outlet ≡ g.O.Outlet.failures l.initial.outlet)

abbrev pub decreases-push : goal.decreases-push
decreases-push g l = length l.bytes - l.taken
