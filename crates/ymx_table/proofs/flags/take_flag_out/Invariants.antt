-- The flags of the words so far have moved up, and the others are as they were.
use Rattle.std.proofs.Common.{◌≡◌, ℕ, ◌+◌, ◌*◌, if◌then◌else◌, nat_lt}
use Rattle.ymx_table.specs.Flags.{flag}
use Rattle.ymx_table.proofs.flags.take_flag_out.Given as goal

abbrev pub invariant-loop-i : goal.invariant-loop-i
invariant-loop-i l = (k : ℕ) → flag l.words k ≡ (if nat_lt k (l.i * 64) then (if nat_lt k l.place then flag l.fn.words k else flag l.fn.words (k + 1)) else flag l.fn.words k)
