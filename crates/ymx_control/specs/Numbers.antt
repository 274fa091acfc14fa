-- Which number a ping gets (ping).
use Rattle.std.specs.Prelude.{◌≡◌, ℕ, ◌+◌, ◌-◌, ◌%◌, ◌^◌, ◌<◌, List, true}
use Rattle.ymx_model.specs.session.Pings.{Ping, is_pending}

-- how many steps up lead from a number to another, where 0 follows 4,294,967,295
abbrev pub steps_up : (from to : ℕ) → ℕ
steps_up from to = (to + 2 ^ 32 - from) % 2 ^ 32

-- counted up from `start`, each number before `found` is pending
abbrev pub ArePendingBefore : (start found : ℕ) → List Ping → Type 0
ArePendingBefore start found ps = (n : ℕ) → n < 2 ^ 32 → steps_up start n < steps_up start found → is_pending n ps ≡ true
