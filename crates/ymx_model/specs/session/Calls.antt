-- Each call as a function of what the session remembers (this project's own, after the Go package).
use Rattle.std.specs.Prelude.{ℕ, ◌&&◌, if◌then◌else◌, ◌+◌, ◌∷◌, ◌==◌, Bool, not, length, nat_le, count_by, List, true, [], false, take, min, None, Some, Option, nat_lt}
use Rattle.ymx_machine.specs.shared.Events.{Reply}
use Rattle.ymx_model.specs.session.Sessions.{Session, is_own, is_lost, is_closed, on_stream, reap, nothing_outgoing}
use Rattle.ymx_machine.specs.shared.Limits.{most_unacknowledged, most_records, first_credit, most_pings, first_exhausted}
use Rattle.ymx_machine.specs.declared.types.Reply.TheVariants.{Refused, Opened, OpenedWith, Accepted, Pinged, Ponged, Done}
use Rattle.ymx_machine.specs.declared.types.CallFault.{CallFault}
use Rattle.ymx_model.specs.declared.types.Role.{Role}
use Rattle.ymx_machine.specs.shared.Phases.{is_live}
use Rattle.ymx_model.specs.session.Records.{End, new_end, end_write, end_accept, end_read, end_finish, end_reset, end_forget}
use Rattle.ymx_machine.specs.declared.types.CallFault.TheVariants.{Lost, Closed, PeerAway, OpensPending, TooMany, Exhausted, NoStream, PingsPending}
use Rattle.ymx_model.specs.session.Tables.{insert_record}
use Rattle.ymx_machine.specs.shared.Lists.{look}
use Rattle.ymx_machine.specs.shared.Phases.Phase.{Live, WasReset}
use Rattle.ymx_machine.specs.shared.Replies.{write_reply, bytes_moved, read_reply, is_done, finish_reply, reset_reply, forget_reply}
use Rattle.ymx_model.specs.session.Pings.{next_number, ask, has_back, collect}
use Rattle.ymx_model.specs.session.GoAway.{say_away}
use Rattle.ymx_model.specs.declared.types.Status.TheVariants.{Closed as ClosedStatus, Running, Lost as LostStatus, Broken}
use Rattle.ymx_model.specs.declared.types.Status.{Status}
use Rattle.ymx_machine.specs.shared.Events.{Call}
use Rattle.ymx_machine.specs.declared.types.Call.TheVariants as call

-- what a call answers, and the session after it
pub record Outcome : Type 0 where
  pub reply : Reply
  pub next : Session

abbrev pub answers : Reply → Session → Outcome
answers reply s = record { reply = reply; next = s }

-- a refusal changes nothing
abbrev pub refused : CallFault → Session → Outcome
refused fault s = record { reply = Refused fault; next = s }

-- ---- opening

-- an own stream that the peer has neither acknowledged nor reset, and that wasn't given up
abbrev pub is_unacknowledged : Role → (ℕ × End) → Bool
is_unacknowledged role p = is_own role p.0 && is_live p.1.phase && not p.1.marks.acked

-- the refusals of an open, in their order
abbrev pub open_or : Session → Outcome → Outcome
open_or s otherwise =
    if is_closed s.status then refused Closed s
    else if is_lost s.status then refused Lost s
    else if s.away.there then refused PeerAway s
    else if nat_le first_exhausted s.next then refused Exhausted s
    else if nat_le most_unacknowledged (count_by (is_unacknowledged s.role) s.table.entries) then refused OpensPending s
    else if nat_le most_records (length s.table.entries) then refused TooMany s
    else otherwise

-- the next own stream is there, with these first bytes; its SYN is due, carried by Data or not
abbrev pub session_opened : (with_data : Bool) → List ℕ → Session → Session
session_opened with_data bytes s = record s {
  table = insert_record s.next (end_write bytes (new_end s.table.window Live true with_data)) s.table;
  next = s.next + 2;
}

abbrev pub open_stream : Session → Outcome
open_stream s = open_or s (answers (Opened s.next) (session_opened false [] s))

abbrev pub open_with : List ℕ → Session → Outcome
open_with bytes s =
    open_or s (answers (OpenedWith s.next (min (length bytes) first_credit)) (session_opened true (take first_credit bytes) s))

-- the offered stream that came first; a lost session still gives those out
abbrev pub accept_of : List ℕ → Session → Outcome
accept_of [] s = if is_lost s.status then refused Lost s else answers (Accepted None) s
accept_of (id ∷ ids) s = answers (Accepted (Some id)) (on_stream id (end_accept (is_lost s.status)) (record s { offered = ids }))

abbrev pub accept : Session → Outcome
accept s = if is_closed s.status then refused Closed s else accept_of s.offered s

-- ---- a stream

-- a call on a stream: Closed comes first, and NoStream where there is no record
abbrev pub at_record : (End → Outcome) → Session → Option End → Outcome
at_record f s None = refused NoStream s
at_record f s (Some e) = f e

abbrev pub at_stream : ℕ → (End → Outcome) → Session → Outcome
at_stream id f s = if is_closed s.status then refused Closed s else at_record f s (look id s.table.entries)

-- a write takes what the credit allows
abbrev pub write_outcome : ℕ → List ℕ → Session → End → Outcome
write_outcome id bytes s e =
    let reply = write_reply (is_lost s.status) bytes e.phase e.writer.finished e.writer.credit in
    answers reply (if bytes_moved reply == 0 then s else on_stream id (end_write (take (bytes_moved reply) bytes)) s)

abbrev pub write_to : ℕ → List ℕ → Session → Outcome
write_to id bytes s = at_stream id (write_outcome id bytes s) s

abbrev pub read_outcome : ℕ → ℕ → Session → End → Outcome
read_outcome id max s e =
    let reply = read_reply (is_lost s.status) max e.phase e.reader.unread e.reader.ended in
    answers reply (if bytes_moved reply == 0 then s else on_stream id (end_read max) s)

abbrev pub read_from : ℕ → (max : ℕ) → Session → Outcome
read_from id max s = at_stream id (read_outcome id max s) s

-- where the reply is Done the stream changes so
abbrev pub if_done : Reply → Session → Session → Outcome
if_done reply changed s = answers reply (if is_done reply then changed else s)

abbrev pub finish_outcome : ℕ → Session → End → Outcome
finish_outcome id s e = if_done (finish_reply (is_lost s.status) e.phase e.writer.finished) (on_stream id end_finish s) s

abbrev pub finish : ℕ → Session → Outcome
finish id s = at_stream id (finish_outcome id s) s

abbrev pub reset_outcome : ℕ → Session → End → Outcome
reset_outcome id s e = if_done (reset_reply (is_lost s.status) e.phase) (on_stream id (end_reset WasReset) s) s

abbrev pub reset : ℕ → Session → Outcome
reset id s = at_stream id (reset_outcome id s) s

abbrev pub forget_outcome : ℕ → Session → End → Outcome
forget_outcome id s e = if_done (forget_reply e.phase) (reap id (on_stream id (end_forget (is_lost s.status)) s)) s

abbrev pub forget : ℕ → Session → Outcome
forget id s = at_stream id (forget_outcome id s) s

-- ---- ping and go away

abbrev pub ping : Session → Outcome
ping s =
    if is_closed s.status then refused Closed s
    else if is_lost s.status then refused Lost s
    else if nat_le most_pings (length s.pings.pending) then refused PingsPending s
    else answers (Pinged (next_number s.pings)) (record s { pings = ask s.pings })

-- a ping whose answer is back is collected
abbrev pub ponged : ℕ → Session → Outcome
ponged n s =
    if is_closed s.status then refused Closed s
    else if has_back n s.pings.pending then answers (Ponged true) (record s { pings = collect n s.pings })
    else if is_lost s.status then refused Lost s
    else answers (Ponged false) s

abbrev pub go_away : Session → Outcome
go_away s =
    if is_closed s.status then refused Closed s
    else if is_lost s.status then refused Lost s
    else answers Done (record s { away = say_away s.away })

-- the rest of a frame begun is dropped
abbrev pub close : Session → Outcome
close s = answers Done (record s { status = ClosedStatus; outgoing = nothing_outgoing })

-- the peer's bytes have ended, which a broken or closed session doesn't hear
abbrev pub status_input_ends : Status → Status
status_input_ends Running = LostStatus
status_input_ends LostStatus = LostStatus
status_input_ends (Broken fault) = Broken fault
status_input_ends ClosedStatus = ClosedStatus

abbrev pub feed_end : Session → Session
feed_end s = record s { status = status_input_ends s.status }

-- ---- any call

-- the outcome of a call that finds the memory it needs
abbrev pub outcome : Call → Session → Outcome
outcome call.Open s = open_stream s
outcome (call.OpenWith bytes) s = open_with bytes s
outcome call.Accept s = accept s
outcome (call.Write id bytes) s = write_to id bytes s
outcome (call.Read id max) s = read_from id max s
outcome (call.Finish id) s = finish id s
outcome (call.Reset id) s = reset id s
outcome (call.Forget id) s = forget id s
outcome call.Ping s = ping s
outcome (call.Ponged n) s = ponged n s
outcome call.GoAway s = go_away s
outcome call.Close s = close s

-- unsent bytes of a stream, 0 where there is none
abbrev pub unsent_count : Option End → ℕ
unsent_count None = 0
unsent_count (Some e) = length e.writer.unsent

abbrev pub reply_opens : Reply → Bool
reply_opens (Opened id) = true
reply_opens (OpenedWith id count) = true
reply_opens _ = false

-- Which calls take memory: one that opens a stream, and a write that lifts the unsent bytes of its
-- stream above 262,144.
abbrev pub takes_memory : Call → Session → Bool
takes_memory call.Open s = reply_opens (open_stream s).reply
takes_memory (call.OpenWith bytes) s = reply_opens (open_with bytes s).reply
takes_memory (call.Write id bytes) s =
    nat_lt first_credit (unsent_count (look id s.table.entries) + bytes_moved (write_to id bytes s).reply)
    && not (bytes_moved (write_to id bytes s).reply == 0)
takes_memory _ s = false
