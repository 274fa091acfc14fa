use Rattle.std.proofs.Common.{◌≤◌, ◌-◌, length}
use Rattle.ymx_cli.proofs.log.Log.write_all.Given as goal

abbrev pub invariant-push : goal.invariant-push
invariant-push g l = l.taken ≤ length l.bytes

abbrev pub decreases-push : goal.decreases-push
decreases-push g l = length l.bytes - l.taken
