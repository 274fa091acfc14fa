-- What a call on one stream answers, and what it does (this project's own, after the Go package's Stream).
use Rattle.std.specs.Prelude.{ℕ, ◌≡◌, ◌&&◌, ◌||◌, ◌≢◌, ◌⊎◌, if◌then◌else◌, List, Bool, not, take, MatchBool}
use Rattle.ymx_machine.specs.shared.Evidence.{evidence}
use Rattle.ymx_machine.specs.stream.Lanes.{Mark, is_unsaid, is_here}
use Rattle.ymx_machine.specs.shared.Phases.{Phase, is_reset}
use Rattle.ymx_machine.specs.stream.Streams.{Stream, TakesBack, stream_reset, stream_write, stream_read, stream_finish, stream_forget}
use Rattle.ymx_machine.specs.shared.Phases.Phase.{WasReset, Lingering}
use Rattle.ymx_machine.specs.shared.Events.{Reply}
use Rattle.ymx_machine.specs.declared.types.Reply.TheVariants.{Refused}
use Rattle.ymx_machine.specs.declared.types.CallFault.TheVariants.{OutOfMemory}
use Rattle.ymx_machine.specs.shared.Replies.{forget_reply, reset_reply, is_done, bytes_moved, finish_reply, write_reply, read_reply}

-- a call on a stream
pub data StreamCall : Type 0 where
  Writes : (bytes : List ℕ) → StreamCall
  Reads : (max : ℕ) → StreamCall
  Finishes : StreamCall
  Resets : StreamCall
  Forgets : StreamCall

-- the stream is reset at this side, which takes back what it may
abbrev pub ResetsTo : Phase → Stream → Stream → Type 0
ResetsTo p s t = (n : ℕ) × (m : Mark) × (a : Mark) × TakesBack n m a s × (t ≡ stream_reset p n m a s)

-- what is forgotten without a reset: in a lost session, after a reset, or with both ends said and here
abbrev pub forgets_quietly : (lost : Bool) → Stream → Bool
forgets_quietly lost s = is_reset s.me || lost || (not (is_unsaid s.outbound.fin) && is_here s.inbound.fin)

-- With this reply the stream s becomes t. A refusal changes nothing.
abbrev pub StreamRule : (lost : Bool) → StreamCall → Stream → Reply → Stream → Type 0
StreamRule lost (Writes bytes) s r t =
    ((r ≡ write_reply lost bytes s.me (not (is_unsaid s.outbound.fin)) s.outbound.credit) × (t ≡ stream_write (take (bytes_moved r) bytes) s))
    ⊎ ((bytes_moved (write_reply lost bytes s.me (not (is_unsaid s.outbound.fin)) s.outbound.credit) ≢ 0) × (r ≡ Refused (OutOfMemory evidence)) × (t ≡ s))
StreamRule lost (Reads max) s r t = (r ≡ read_reply lost max s.me s.inbound.here (is_here s.inbound.fin)) × (t ≡ stream_read (bytes_moved r) s)
StreamRule lost Finishes s r t =
    (r ≡ finish_reply lost s.me (not (is_unsaid s.outbound.fin))) × (t ≡ (if is_done r then stream_finish s else s))
StreamRule lost Resets s r t = (r ≡ reset_reply lost s.me) × MatchBool (is_done r) (ResetsTo WasReset s t) (t ≡ s)
StreamRule lost Forgets s r t =
    (r ≡ forget_reply s.me)
    × MatchBool (is_done r) (MatchBool (forgets_quietly lost s) (t ≡ stream_forget s) (ResetsTo Lingering s t)) (t ≡ s)
