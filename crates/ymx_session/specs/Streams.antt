-- What a caller can ask of its streams (flow control, half-close, flags).
use Rattle.std.specs.Prelude.{ℕ, List, [], length, ◌||◌, is_some, if◌then◌else◌, Bool, false, Option, None, Some}
use Rattle.ymx_model.specs.session.Records.{End}
use Rattle.ymx_machine.specs.shared.Lists.{look}
use Rattle.ymx_model.specs.declared.types.FrameKind.{FrameKind}
use Rattle.ymx_model.specs.session.Sessions.{Incoming, Session, is_running, is_lost, is_closed}
use Rattle.ymx_model.specs.session.Sessions.Incoming.{Head, Payload}
use Rattle.ymx_model.specs.session.Calls.{unsent_count}
use Rattle.ymx_model.specs.session.FramesDue.{next_kind}
use Rattle.ymx_table.specs.Listing.{held_ids}
use Rattle.ymx_table.specs.Unsent.{unsent_sum}
use Rattle.ymx_session.specs.Replies.{stream_fault}

-- the bytes of a stream that came and were not read
abbrev pub unread_of : Option End → List ℕ
unread_of None = []
unread_of (Some e) = e.reader.unread

-- the bytes that wait to be read on the stream that the caller has under this id; none, if there is no such stream
abbrev pub waiting : ℕ → Session → List ℕ
waiting id s = if is_some (stream_fault id s) then [] else unread_of (look id s.table.entries)

-- the credit of a stream that was not finished here
abbrev pub open_credit : Option End → ℕ
open_credit None = 0
open_credit (Some e) = if e.writer.finished then 0 else e.writer.credit

-- how many bytes may be written now to the stream that the caller has under this id; 0, if there is no such stream
abbrev pub room_of : ℕ → Session → ℕ
room_of id s = if is_some (stream_fault id s) || is_lost s.status then 0 else open_credit (look id s.table.entries)

-- how many bytes the peer may still send
abbrev pub granted_to : Option End → ℕ
granted_to None = 0
granted_to (Some e) = e.reader.granted

-- how many bytes the peer may still send on the stream that the caller has under this id; 0, if there is no such stream
abbrev pub granted_of : ℕ → Session → ℕ
granted_of id s = if is_some (stream_fault id s) then 0 else granted_to (look id s.table.entries)

-- the peer's end of a stream has arrived
abbrev pub ended_of : Option End → Bool
ended_of None = false
ended_of (Some e) = e.reader.ended

-- the peer's end has arrived of the stream that the caller has under this id; false, if there is no such stream
abbrev pub has_ended : ℕ → Session → Bool
has_ended id s = if is_some (stream_fault id s) then false else ended_of (look id s.table.entries)

-- how many bytes are written to the stream that the caller has under this id, and stand in no frame begun yet; 0, if
-- there is no such stream
abbrev pub unsent_of : ℕ → Session → ℕ
unsent_of id s = if is_some (stream_fault id s) then 0 else unsent_count (look id s.table.entries)

-- how many bytes of all streams, also of those that were forgotten, are written and stand in no frame begun yet; 0 of a
-- closed session, which drops them
abbrev pub unsent_total : Session → ℕ
unsent_total s = if is_closed s.status then 0 else unsent_sum s.table

-- the frame of a stream that begins next, of those that are due
abbrev pub kind_of : (window : ℕ) → Option End → Option FrameKind
kind_of window None = None
kind_of window (Some e) = next_kind window e

-- the frame that begins next of the stream of this id, whether or not the caller still has it; none, where nothing of it
-- is due, there is no such stream, or the session doesn't run
abbrev pub next_of : ℕ → Session → Option FrameKind
next_of id s = if is_running s.status then kind_of s.table.window (look id s.table.entries) else None

-- the peer has acknowledged a stream
abbrev pub acknowledged_of : Option End → Bool
acknowledged_of None = false
acknowledged_of (Some e) = e.marks.acked

-- the peer has acknowledged the stream that the caller has under this id; false, if there is no such stream
abbrev pub is_acknowledged : ℕ → Session → Bool
is_acknowledged id s = if is_some (stream_fault id s) then false else acknowledged_of (look id s.table.entries)

-- the streams that the caller has, in the order of the table
abbrev pub stream_ids : Session → List ℕ
stream_ids s = held_ids [] s.table.entries

-- how many bytes have come of a header that isn't whole: 0 right after a whole frame, and none is said while a payload is under way
abbrev pub header_begun : Incoming → Option ℕ
header_begun (Head bytes) = Some (length bytes)
header_begun (Payload id missing fin discarded) = None

-- how many bytes are still to come of the payload that is under way
abbrev pub payload_left : Incoming → ℕ
payload_left (Head bytes) = 0
payload_left (Payload id missing fin discarded) = missing
