-- Devices in memory: what they hold, how much a call moves, and which call fails (this project's own).
use Rattle.std.specs.Prelude.{ℕ, ◌==◌, ◌||◌, ◌-◌, if◌then◌else◌, ◌+◌, List, Option, Bool, false, None, Some, min}
use Rattle.ymx_model.specs.devices.Devices.{most_failures}

-- a device in memory: its bytes (still to give, or taken), the most that a call moves, how many calls come before the one that fails, how many have failed, and whether it was ended
pub record Memory : Type 0 where
  pub bytes : List ℕ
  pub most : ℕ
  pub before_failure : Option ℕ
  pub failures : ℕ
  pub is_ended : Bool

-- the turn of the call that fails has come
abbrev pub is_turn : Option ℕ → Bool
is_turn None = false
is_turn (Some calls) = calls == 0

-- a call fails in its turn, and always once the device has failed as often as can be counted
abbrev pub call_fails : Memory → Bool
call_fails m = is_turn m.before_failure || m.failures == most_failures

-- one call fewer comes before the one that fails; after that one none does
abbrev pub turn_after : Option ℕ → Option ℕ
turn_after None = None
turn_after (Some calls) = if calls == 0 then None else Some (calls - 1)

-- after a call that failed
abbrev pub after_failure : Memory → Memory
after_failure m = record m { before_failure = turn_after m.before_failure; failures = min (m.failures + 1) most_failures }

-- after a call that did not fail, with these bytes now
abbrev pub after_success : Memory → List ℕ → Memory
after_success m bytes = record m { bytes = bytes; before_failure = turn_after m.before_failure }
