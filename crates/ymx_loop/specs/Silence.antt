-- Which bytes of a peer are activity, and what is due of one that is silent (this project's own). Times are in nanoseconds.
use Rattle.std.specs.Prelude.{ℕ, ◌≡◌, ◌+◌, ◌-◌, ◌<◌, ◌≤◌, Bool, true, false, nat_le, nat_lt, Option, Some, None}
use Rattle.std.specs.Duration.{as_nanos}
use Rattle.ymx_loop.specs.declared.silence.Due.{Due}
use Rattle.ymx_loop.specs.declared.silence.Due.TheVariants as due

-- The peer was active, of which this many bytes had come when it last was, and this many have by now: since then a frame has
-- come whole, after which that many of them stand; or a payload is under way of which 4,096 bytes have come since, whatever header of
-- 12 bytes was begun.
abbrev pub is_sign : (before bytes : ℕ) → (unframed : Option ℕ) → Bool
is_sign before bytes (Some behind) = nat_lt before (bytes - behind)
is_sign before bytes None = nat_le 4108 (bytes - before)

-- What is due of one that may be silent for `patience` and has been for `passed`: nothing, before the rest of it has gone by; then it is
-- pinged; and where it was pinged it counts as gone.
abbrev pub IsDueAfter : (patience passed : ℕ) → (was_asked : Bool) → Due → Type 0
IsDueAfter patience passed asked (due.In left) = (0 < as_nanos left) × (as_nanos left + passed ≡ patience)
IsDueAfter patience passed asked due.Ping = (asked ≡ false) × (patience ≤ passed)
IsDueAfter patience passed asked (due.Loss silent) = (asked ≡ true) × (patience ≤ passed)
