-- Devices that never wait, and what a contract sees of them (this project's own).
use Rattle.std.specs.Prelude.{ℕ, ◌≡◌, ◌+◌, ◌≤◌, ◌<◌, List, length, take, Option, Bool, true, false, ◌||◌, ◌&&◌, nat_le, option_map}
use Rattle.std.specs.Io.KnownBytes.{Appends, Consumes, IsAtEnd}
use Rattle.ymx_engine.specs.declared.device.Pulled.{Pulled}
use Rattle.ymx_engine.specs.declared.device.Pulled.TheVariants as pulled
use Rattle.ymx_engine.specs.declared.device.Pushed.{Pushed}
use Rattle.ymx_engine.specs.declared.device.Pushed.TheVariants as pushed
use Rattle.ymx_engine.specs.declared.device.Readiness.{Readiness}

-- Whether a device may have bytes now, or its end; whether it may take some; and whether its end is near, so that fewer bytes
-- than there was room for don't say that none are left.
pub record Marks : Type 0 where
  pub may_pull : Bool
  pub may_push : Bool
  pub is_closing : Bool

-- The bytes that a device has still to give, those that it has taken, whether it said that no more come, whether it was
-- ended, whether it has failed, and whether it was shut, each where the device can tell; its marks; and how many calls were
-- made, as far as it counts them.
pub record Seen : Type 0 where
  pub left : Option (List ℕ)
  pub had : Option (List ℕ)
  pub over : Option Bool
  pub ended : Option Bool
  pub failed : Option Bool
  pub shut : Option Bool
  pub marks : Marks
  pub calls : ℕ

abbrev pub pulled_count : Pulled → ℕ
pulled_count (pulled.Gave n) = n
pulled_count _ = 0

abbrev pub gives : Pulled → Bool
gives (pulled.Gave n) = true
gives _ = false

abbrev pub is_end : Pulled → Bool
is_end pulled.Ended = true
is_end _ = false

abbrev pub is_pull_failure : Pulled → Bool
is_pull_failure pulled.Failed = true
is_pull_failure _ = false

abbrev pub pushed_count : Pushed → ℕ
pushed_count (pushed.Took n) = n
pushed_count _ = 0

abbrev pub takes : Pushed → Bool
takes (pushed.Took n) = true
takes _ = false

abbrev pub is_push_failure : Pushed → Bool
is_push_failure pushed.Failed = true
is_push_failure _ = false

-- ---- marks

-- A device that filled the room may have more, and so may one whose end is near; after 'not now', an end or a failure none does.
abbrev pub may_have_more : Pulled → (room : ℕ) → (closing : Bool) → Bool
may_have_more (pulled.Gave n) room closing = nat_le room n || closing
may_have_more _ room closing = false

-- A device that took all that it was offered may take more; after 'not now' and a failure none does.
abbrev pub may_take_more : Pushed → (offered : ℕ) → Bool
may_take_more (pushed.Took n) offered = nat_le offered n
may_take_more _ offered = false

-- the marks after a call for so many bytes
abbrev pub after_pull : Pulled → (room : ℕ) → Marks → Marks
after_pull result room m = record m { may_pull = m.may_pull && may_have_more result room m.is_closing }

-- the marks after a call with so many bytes
abbrev pub after_push : Pushed → (offered : ℕ) → Marks → Marks
after_push result offered m = record m { may_push = m.may_push && may_take_more result offered }

-- ---- calls

-- how many bytes there is room for in one call for bytes: 128 KiB
abbrev pub one_read : ℕ
one_read = 131072

-- how many bytes a connection gives at most in one turn: two reads
abbrev pub one_turn : ℕ
one_turn = 262144

-- how many bytes of a payload a frame carries at most
abbrev pub one_frame : ℕ
one_frame = 16384

-- The next bytes came into the front of a buffer, one at least where there was room; at the end none are left.
pub record IsPulled (result : Pulled) (buffer : List ℕ) (old new : Seen) : Type 0 where
  pub within : pulled_count result ≤ length buffer
  pub some : gives result ≡ true → 0 < length buffer → 0 < pulled_count result
  pub gave : Consumes old.left new.left (take (pulled_count result) buffer)
  pub end : result ≡ pulled.Ended → IsAtEnd new.left
  pub had : new.had ≡ old.had
  pub over : new.over ≡ option_map (λ b. b || is_end result) old.over
  pub ended : new.ended ≡ old.ended
  pub failed : new.failed ≡ option_map (λ b. b || is_pull_failure result) old.failed
  pub shut : new.shut ≡ old.shut
  pub marks : new.marks ≡ after_pull result (length buffer) old.marks
  pub counted : new.calls ≤ old.calls + 1

-- the first of these bytes were taken, one at least if there were some
pub record IsPushed (result : Pushed) (bytes : List ℕ) (old new : Seen) : Type 0 where
  pub within : pushed_count result ≤ length bytes
  pub some : takes result ≡ true → 0 < length bytes → 0 < pushed_count result
  pub took : Appends old.had new.had (take (pushed_count result) bytes)
  pub left : new.left ≡ old.left
  pub over : new.over ≡ old.over
  pub ended : new.ended ≡ old.ended
  pub failed : new.failed ≡ option_map (λ b. b || is_push_failure result) old.failed
  pub shut : new.shut ≡ old.shut
  pub marks : new.marks ≡ after_push result (length bytes) old.marks
  pub counted : new.calls ≤ old.calls + 1

-- no more bytes come
pub record IsEnded (old new : Seen) : Type 0 where
  pub left : new.left ≡ old.left
  pub had : new.had ≡ old.had
  pub over : new.over ≡ old.over
  pub ended : new.ended ≡ option_map (λ b. true) old.ended
  pub failed : new.failed ≡ old.failed
  pub shut : new.shut ≡ old.shut
  pub marks : new.marks ≡ old.marks
  pub counted : new.calls ≤ old.calls + 1

-- It was shut, and moved nothing. A call of it answers at once then.
pub record IsShut (old new : Seen) : Type 0 where
  pub left : new.left ≡ old.left
  pub had : new.had ≡ old.had
  pub over : new.over ≡ old.over
  pub ended : new.ended ≡ old.ended
  pub failed : new.failed ≡ old.failed
  pub shut : new.shut ≡ option_map (λ b. true) old.shut
  pub marks : new.marks ≡ record old.marks { may_pull = true; may_push = true }
  pub counted : new.calls ≤ old.calls + 1

-- An event said this of it. No byte moved, and each mark that the event speaks of is on.
pub record IsNoted (ready : Readiness) (old new : Seen) : Type 0 where
  pub left : new.left ≡ old.left
  pub had : new.had ≡ old.had
  pub over : new.over ≡ old.over
  pub ended : new.ended ≡ old.ended
  pub failed : new.failed ≡ old.failed
  pub shut : new.shut ≡ old.shut
  pub may_pull : new.marks.may_pull ≡ (old.marks.may_pull || ready.can_pull)
  pub may_push : new.marks.may_push ≡ (old.marks.may_push || ready.can_push)
  pub is_closing : new.marks.is_closing ≡ (old.marks.is_closing || ready.is_closing)
  pub counted : new.calls ≡ old.calls
