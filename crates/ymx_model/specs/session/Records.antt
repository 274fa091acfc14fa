-- What a session remembers of one stream, and what calls and frames do to it (flow control, flags).
use Rattle.std.specs.Prelude.{ℕ, ◌+◌, ◌&&◌, ◌-◌, ◌++◌, if◌then◌else◌, List, Bool, length, [], false, nat_lt, drop, true, min, not}
use Rattle.ymx_machine.specs.shared.Phases.{Phase, is_reset, takes, is_refused, struck}
use Rattle.ymx_machine.specs.shared.Limits.{first_credit}
use Rattle.ymx_machine.specs.shared.Phases.Phase.{Live, Lingering}

-- The sending half: the bytes that may still be written, the bytes written that belong to no frame
-- yet, whether the stream was finished here, whether the frame with FIN has begun.
pub record Writer : Type 0 where
  pub credit : ℕ
  pub unsent : List ℕ
  pub finished : Bool
  pub fin_sent : Bool

-- The receiving half: the bytes that came and were not read, the bytes that the peer may still send,
-- the bytes read and not announced, whether the peer's end has arrived.
pub record Reader : Type 0 where
  pub unread : List ℕ
  pub granted : ℕ
  pub owed : ℕ
  pub ended : Bool

-- what the window of a reader holds, in bytes: what came and was not read, what the peer may still send,
-- and what was read and not announced
abbrev pub window_held : Reader → ℕ
window_held r = length r.unread + r.granted + r.owed

-- What is due of the stream besides credit, data and end: the SYN (plain, or carried by Data), the
-- ACK, the RST, a credit frame with all that is owed; and whether the peer has acknowledged it.
pub record Marks : Type 0 where
  pub syn : Bool
  pub with_data : Bool
  pub ack : Bool
  pub rst : Bool
  pub credit_at_once : Bool
  pub acked : Bool

-- one end of a stream
pub record End : Type 0 where
  pub phase : Phase
  pub writer : Writer
  pub reader : Reader
  pub marks : Marks

-- the halves of a stream that is over: they hold nothing
abbrev pub dead_writer : Writer
dead_writer = record { credit = 0; unsent = []; finished = false; fin_sent = false }

abbrev pub dead_reader : Reader
dead_reader = record { unread = []; granted = 0; owed = 0; ended = false }

-- only these are due, whatever was
abbrev pub only_due : Bool → Bool → Marks → Marks
only_due syn rst m = record m { syn = syn; with_data = syn && m.with_data; ack = false; rst = rst; credit_at_once = false }

-- the halves of a stream just made: at any window the first credit may be written, and may come; what the
-- window has beyond it is owed
abbrev pub new_writer : Writer
new_writer = record { credit = first_credit; unsent = []; finished = false; fin_sent = false }

abbrev pub new_reader : ℕ → Reader
new_reader window = record { unread = []; granted = first_credit; owed = window - first_credit; ended = false }

-- an end that is made now, at a session of this window; `syn`: its SYN is due, and `with_data`
abbrev pub new_end : ℕ → Phase → Bool → Bool → End
new_end window phase syn with_data = record {
  phase = phase;
  writer = new_writer;
  reader = new_reader window;
  marks = record { syn = syn; with_data = with_data; ack = false; rst = false; credit_at_once = with_data && nat_lt first_credit window; acked = false };
}

-- ---- the halves

-- these bytes are written
abbrev pub writer_write : List ℕ → Writer → Writer
writer_write bytes w = record w { credit = w.credit - length bytes; unsent = w.unsent ++ bytes }

-- the first n unsent bytes go into a frame
abbrev pub writer_send : ℕ → Writer → Writer
writer_send n w = record w { unsent = drop n w.unsent }

abbrev pub writer_grant : ℕ → Writer → Writer
writer_grant d w = record w { credit = w.credit + d }

abbrev pub writer_finish : Writer → Writer
writer_finish w = record w { finished = true }

abbrev pub writer_begin_fin : Writer → Writer
writer_begin_fin w = record w { fin_sent = true }

-- these bytes come
abbrev pub reader_arrive : List ℕ → Reader → Reader
reader_arrive bytes r = record r { unread = r.unread ++ bytes; granted = r.granted - length bytes }

-- the first n unread bytes are read
abbrev pub reader_read : ℕ → Reader → Reader
reader_read n r = record r { unread = drop n r.unread; owed = r.owed + min n (length r.unread) }

-- n of the owed bytes are announced: the peer may send them from now on
abbrev pub reader_announce : ℕ → Reader → Reader
reader_announce n r = record r { granted = r.granted + min n r.owed; owed = r.owed - n }

abbrev pub reader_end : Reader → Reader
reader_end r = record r { ended = true }

-- what is unread is dropped
abbrev pub reader_empty : Reader → Reader
reader_empty r = record r { unread = [] }

-- ---- calls

abbrev pub end_write : List ℕ → End → End
end_write bytes e = record e { writer = writer_write bytes e.writer }

abbrev pub end_read : ℕ → End → End
end_read n e = record e { reader = reader_read n e.reader }

abbrev pub end_finish : End → End
end_finish e = record e { writer = writer_finish e.writer }

-- a lost session says no acknowledgement
abbrev pub end_accept : Bool → End → End
end_accept lost e = record e { phase = Live; marks = record e.marks { ack = not lost } }

-- both halves are over, and a reset is due after a SYN that hasn't gone out
abbrev pub end_reset : Phase → End → End
end_reset phase e = record e { phase = phase; writer = dead_writer; reader = dead_reader; marks = only_due e.marks.syn true e.marks }

-- A lost session says nothing. A stream that was reset stays so. One that is over in both directions
-- still sends its bytes and its end. Any other is reset.
abbrev pub end_forget : Bool → End → End
end_forget lost e =
    if lost then record e { phase = Lingering; writer = dead_writer; reader = dead_reader; marks = only_due false false e.marks }
    else if is_reset e.phase then record e { phase = Lingering }
    else if e.writer.finished && e.reader.ended then record e { phase = Lingering; reader = reader_empty e.reader }
    else end_reset Lingering e

-- ---- frames that come

-- neither reset nor given up, and its end has not arrived
abbrev pub takes_payload : End → Bool
takes_payload e = takes e.phase && not e.reader.ended

abbrev pub receive_data : List ℕ → End → End
receive_data bytes e = if takes_payload e then record e { reader = reader_arrive bytes e.reader } else e

-- a delta is dropped where nothing more is written
abbrev pub receive_credit : ℕ → End → End
receive_credit d e = if takes e.phase then record e { writer = writer_grant d e.writer } else e

-- after the end no credit is returned
abbrev pub receive_fin : End → End
receive_fin e = if takes_payload e then record e { reader = reader_end e.reader; marks = record e.marks { credit_at_once = false } } else e

-- a piece of a payload, after which the end may stand
abbrev pub receive_piece : Bool → List ℕ → End → End
receive_piece fin bytes e = if fin then receive_fin (receive_data bytes e) else receive_data bytes e

abbrev pub receive_ack : End → End
receive_ack e = record e { marks = record e.marks { acked = true } }

-- The head of a frame without a reset: it may acknowledge the stream, it lets so many bytes more be written,
-- and it ends the stream if no payload stands before the end.
abbrev pub receive_head : (acknowledges : Bool) (delta : ℕ) (ends : Bool) → End → End
receive_head acknowledges delta ends e =
    let credited = receive_credit delta (if acknowledges then receive_ack e else e) in
    if ends then receive_fin credited else credited

-- both halves are over, and nothing is due any more, but for the rejection of a stream that was refused
abbrev pub receive_rst : End → End
receive_rst e = record e { phase = struck e.phase; writer = dead_writer; reader = dead_reader; marks = only_due false (is_refused e.phase && e.marks.rst) e.marks }
