-- Flags kept as the bits of words (this project's own).
use Rattle.std.specs.Prelude.{ℕ, ◌≡◌, ◌/◌, ◌%◌, ◌<◌, ◌≤◌, ◌==◌, Bool, true, false, List, map, slice_index, count_by}
use Rattle.std.specs.List.{range_with_len}
use Rattle.std.specs.Int.{bit_at}
use Rattle.ymx_machine.specs.shared.Limits.{most_records}

-- whether bit k of a word is set, counted from the lowest
abbrev pub bit : ℕ → ℕ → Bool
bit word k = bit_at word k == 1

-- whether flag k of words of 64 bits is set, counted from the lowest bit of the first word
abbrev pub flag : List ℕ → ℕ → Bool
flag words k = bit (slice_index words (k / 64)) (k % 64)

-- the first `len` flags
unfoldable pub flags_of : List ℕ → ℕ → List Bool
flags_of words len = map (flag words) (range_with_len 0 len)

-- how many flags are set
abbrev pub set_count : List Bool → ℕ
set_count flags = count_by (λ b. b) flags

-- `at` is the first number from `from` on that passes
pub record IsFirst (test : ℕ → Bool) (from at : ℕ) : Type 0 where
  pub behind : from ≤ at
  pub passes : test at ≡ true
  pub none_between : (k : ℕ) → from ≤ k → k < at → test k ≡ false

-- no number from `from` on passes
abbrev pub IsNoneFrom : (ℕ → Bool) → ℕ → Type 0
IsNoneFrom test from = (k : ℕ) → from ≤ k → test k ≡ false

-- the words hold so many flags and nothing after them, and `count` says how many are set
pub record AreFlags (words : List ℕ) (len count : ℕ) : Type 0 where
  pub few : len ≤ most_records
  pub clear_behind : (k : ℕ) → len ≤ k → flag words k ≡ false
  pub counted : count ≡ set_count (flags_of words len)
