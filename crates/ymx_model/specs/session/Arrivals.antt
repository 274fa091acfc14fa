-- What a frame does on arrival: its head, and each piece of its payload (framing, flags, flow control, ping, go away).
use Rattle.std.specs.Prelude.{ℕ, ◌+◌, ◌∷◌, ◌++◌, if◌then◌else◌, ◌==◌, ◌&&◌, ◌||◌, ◌-◌, [], nat_lt, Bool, Option, None, Some, true, false, length, nat_le, is_some, not, is_none, List}
use Rattle.ymx_model.specs.declared.types.Response.{Response}
use Rattle.ymx_model.specs.session.Sessions.{Session, breaks, on_stream, reap, is_own}
use Rattle.ymx_machine.specs.shared.Lists.{drop_id, look}
use Rattle.ymx_machine.specs.shared.Limits.{most_offered, most_records, greatest_number}
use Rattle.ymx_header.specs.declared.header.Header.{Header}
use Rattle.ymx_header.specs.Headers.{has_syn, has_fin, has_rst, has_ack}
use Rattle.ymx_model.specs.declared.types.Response.TheVariants.{Pong, Reject}
use Rattle.ymx_model.specs.session.Pings.{receive_answer}
use Rattle.ymx_header.specs.declared.fault.Fault.TheVariants.{BadGoAwayCode, PeerSawProtocolError, PeerSawInternalError, WindowExceeded, CreditOverflow, BadSyn, StreamInUse}
use Rattle.ymx_model.specs.session.GoAway.{receive_away, was_said}
use Rattle.ymx_header.specs.Frames.{payload_length, fault_of}
use Rattle.ymx_model.specs.session.Sessions.Incoming.{Payload, Head}
use Rattle.ymx_header.specs.declared.fault.Fault.{Fault}
use Rattle.ymx_machine.specs.shared.Phases.{takes, is_offered}
use Rattle.ymx_model.specs.session.Records.{End, takes_payload, receive_rst, receive_ack, receive_head as head_of, new_end, receive_piece}
use Rattle.ymx_model.specs.session.Tables.{remove_record, insert_record}
use Rattle.ymx_machine.specs.shared.Phases.Phase.{Offered}

-- an answer is put at the back of the row
abbrev pub answers_with : Response → Session → Session
answers_with response s = record s { answers = s.answers ++ response ∷ [] }

-- ---- ping and go away

-- a ping with SYN is answered; one without it is an answer itself
abbrev pub ping_comes : Header → Session → Session
ping_comes h s = if has_syn h then answers_with (Pong h.length) s else record s { pings = receive_answer h.length s.pings }

abbrev pub go_away_comes : Header → Session → Session
go_away_comes h s =
    if nat_lt 2 h.length then breaks BadGoAwayCode s
    else if h.length == 1 then breaks PeerSawProtocolError s
    else if h.length == 2 then breaks PeerSawInternalError s
    else record s { away = receive_away s.away }

-- ---- streams

abbrev pub is_data : Header → Bool
is_data h = h.kind == 0

-- the payload that follows, in bytes
abbrev pub payload : Header → ℕ
payload h = payload_length h

-- the credit that comes, in bytes
abbrev pub delta : Header → ℕ
delta h = if is_data h then 0 else h.length

-- the payload follows; a discarded one is dropped to its end, whatever becomes of the id
abbrev pub expects : Header → (discarded : Bool) → Session → Session
expects h discarded s = if payload h == 0 then s else record s { incoming = Payload h.id (payload h) (has_fin h) discarded }

-- The faults of a frame at a record that is there: payload beyond the window granted, where it would be
-- taken, and a delta that lifts the credit too far, where it would be used.
abbrev pub record_fault : Header → End → Option Fault
record_fault h e =
    if has_rst h then None
    else if takes_payload e && nat_lt e.reader.granted (payload h) then Some WindowExceeded
    else if takes e.phase && nat_lt greatest_number (e.writer.credit + delta h) then Some CreditOverflow
    else None

-- a reset that comes: an offered record goes at once, and one given up as soon as its frame begun is out
abbrev pub reset_comes : ℕ → End → Session → Session
reset_comes id e s =
    if is_offered e.phase then record s { table = remove_record id s.table; offered = drop_id id s.offered }
    else reap id (on_stream id receive_rst s)

-- an end without payload comes with its head
abbrev pub ends_now : Header → Bool
ends_now h = has_fin h && payload h == 0

-- an acknowledgement means something only on an own stream
abbrev pub acknowledges : (own : Bool) → Header → End → End
acknowledges own h e = if has_ack h && own then receive_ack e else e

-- what a head without a reset does to a record: the acknowledgement, the credit, the end
abbrev pub take_head : (own : Bool) → Header → End → End
take_head own h e = head_of (has_ack h && own) (delta h) (ends_now h) e

-- the head of a frame, without a fault, for a record that is there
abbrev pub meets : Header → End → Session → Session
meets h e s =
    if has_rst h then expects h true (reset_comes h.id e (on_stream h.id (acknowledges (is_own s.role h.id) h) s))
    else expects h false (on_stream h.id (take_head (is_own s.role h.id) h) s)

abbrev pub unless_fault : Option Fault → Session → Session → Session
unless_fault None s otherwise = otherwise
unless_fault (Some fault) s otherwise = breaks fault s

-- without a SYN: a frame that finds no record is dropped with its payload
abbrev pub meets_some : Header → Option End → Session → Session
meets_some h None s = expects h true s
meets_some h (Some e) s = unless_fault (record_fault h e) s (meets h e s)

-- ---- SYN

-- the record that a SYN makes
abbrev pub offer : Session → End
offer s = new_end s.table.window Offered false false

-- why a stream is refused even if there is memory: go away was said here, or a limit is reached
abbrev pub session_refuses : Session → Bool
session_refuses s = was_said s.away.here || nat_le most_offered (length s.offered) || nat_le most_records (length s.table.entries)

-- The faults of a SYN, in their order: id 0 or an own id, an id with a record, and those of the frame
-- as if its record were made, whether or not it is then refused.
abbrev pub syn_fault : Header → Session → Option Fault
syn_fault h s =
    if h.id == 0 || is_own s.role h.id then Some BadSyn
    else if is_some (look h.id s.table.entries) then Some StreamInUse
    else record_fault h (offer s)

-- a stream is refused by a rejection, or else offered; `no_memory`: no memory is found for its record
abbrev pub syn_comes : (no_memory : Bool) → Header → Session → Session
syn_comes no_memory h s =
    unless_fault (syn_fault h s) s (
    if session_refuses s || no_memory then expects h true (answers_with (Reject h.id) s)
    else meets h (offer s) (record s { table = insert_record h.id (offer s) s.table; offered = s.offered ++ h.id ∷ [] })
    )

-- ---- a head, a piece

-- the fault of a header by itself, under the session's frame limit
abbrev pub header_fault : Header → Session → Option Fault
header_fault h s = fault_of s.table.window h

-- The head of a frame. All its faults are judged before anything is changed.
abbrev pub head_comes : (no_memory : Bool) → Header → Session → Session
head_comes no_memory h s =
    unless_fault (header_fault h s) s (
    if h.kind == 2 then ping_comes h s
    else if h.kind == 3 then go_away_comes h s
    else if has_syn h then syn_comes no_memory h s
    else meets_some h (look h.id s.table.entries) s
    )

-- a SYN that is refused for lack of memory alone
abbrev pub is_starved : Header → Session → Bool
is_starved h s =
    is_none (header_fault h s) && nat_lt h.kind 2 && has_syn h && is_none (syn_fault h s) && not (session_refuses s)

-- These bytes of a payload come, of which so many bytes lacked. The end stands after the last.
abbrev pub piece_comes : List ℕ → (id missing : ℕ) → (fin discarded : Bool) → Session → Session
piece_comes bytes id missing fin discarded s =
    let more = nat_lt (length bytes) missing in
    let t = record s { incoming = if more then Payload id (missing - length bytes) fin discarded else Head [] } in
    if discarded then t else on_stream id (receive_piece (fin && not more) bytes) t
