-- No flag on the way so far is set.
use Rattle.std.proofs.Common.{◌≡◌, ℕ, ◌*◌, ◌<◌, ◌≤◌, false}
use Rattle.ymx_table.specs.Flags.{flag}
use Rattle.ymx_table.proofs.flags.first_flag.Given as goal

abbrev pub invariant-loop-i : goal.invariant-loop-i
invariant-loop-i l = (k : ℕ) → l.from ≤ k → k < l.i * 64 → flag l.words k ≡ false
