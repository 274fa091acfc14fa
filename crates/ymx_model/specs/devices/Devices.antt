-- Devices that bytes come from and go to, and how they fail (this project's own).
use Rattle.std.specs.Prelude.{ℕ, ◌-◌, ◌^◌, ◌≡◌, ◌+◌, ◌<◌, ◌||◌, min, Result, MatchResult, Bool, nat_le, nat_lt}

-- the greatest count of failed calls: a device that has failed so often fails at each call
abbrev pub most_failures : ℕ
most_failures = 2 ^ 64 - 1

-- a call that succeeds leaves the count of failed calls, and one that fails raises it by one, as far as it goes
abbrev pub CountsFailures : {T E : Type 0} → Result T E → ℕ → ℕ → Type 0
CountsFailures result old new = MatchResult result (λ _. (new ≡ old) × (old < most_failures)) (λ _. new ≡ min (old + 1) most_failures)

-- a call failed in between
abbrev pub has_failed : ℕ → ℕ → Bool
has_failed old new = nat_lt old new || nat_le most_failures old
