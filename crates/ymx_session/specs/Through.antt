-- Bytes that are written and go out at once, without a stay in their stream's ring (this project's own).
use Rattle.std.specs.Prelude.{◌&&◌, ◌+◌, ℕ, List, length, nat_lt, nat_le, not, Bool}
use Rattle.ymx_machine.specs.declared.types.Call.TheVariants as call
use Rattle.ymx_machine.specs.declared.types.Reply.TheVariants as reply
use Rattle.ymx_machine.specs.declared.types.Wrote.TheVariants.{Took}
use Rattle.ymx_machine.specs.shared.Limits.{data_limit}
use Rattle.ymx_model.specs.declared.types.Event.TheVariants as event
use Rattle.ymx_model.specs.session.Sessions.{Session}
use Rattle.ymx_model.specs.session.Emissions.{in_turn, is_ready}
use Rattle.ymx_model.specs.session.Histories.{Gives}
use Rattle.ymx_session.specs.Streams.{room_of}

-- Whether `count` bytes that are written to the stream go out at once, into a buffer of `size` bytes: there is one at
-- least, one frame can carry them, the frame fits, the stream takes all of them (which says that the session runs), and
-- nothing else is due.
abbrev pub goes_through : (id count size : ℕ) → Session → Bool
goes_through id count size s =
    nat_lt 0 count && nat_le count data_limit && nat_le (12 + count) size
    && nat_le count (room_of id s) && not (is_ready s)

-- These bytes are written and go out: a write that takes them all, and then an emission into a buffer of `size` bytes,
-- which gives `filled`.
pub record WritesThrough (id : ℕ) (bytes : List ℕ) (size : ℕ) (filled : List ℕ) (s t : Session) : Type 0 where
  pub mid : Session
  pub wrote : Gives in_turn s (event.Call (call.Write id bytes)) (reply.Wrote (Took (length bytes))) mid
  pub emitted : Gives in_turn mid (event.Emit size) (reply.Emitted filled) t
