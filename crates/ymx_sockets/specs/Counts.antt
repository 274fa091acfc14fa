-- Counts that stay at the greatest `u64` (this project's own).
use Rattle.std.specs.Prelude.{ℕ, ◌≡◌, ◌⊎◌, ◌+◌, ◌≤◌}

-- one more was counted, unless the count was the greatest
abbrev pub CountsOne : (old new : ℕ) → Type 0
CountsOne old new = (new ≡ old + 1) ⊎ (18446744073709551615 ≤ old) × (new ≡ old)
