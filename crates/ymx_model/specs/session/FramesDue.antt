-- What is due of one stream, and how its frames are spelled (framing, flags, flow control).
use Rattle.std.specs.Prelude.{ℕ, ◌∷◌, ◌*◌, ◌&&◌, ◌||◌, if◌then◌else◌, ◌-◌, List, [], Bool, true, false, not, nat_le, Option, None, Some, length, take}
use Rattle.ymx_machine.specs.shared.Phases.{is_live}
use Rattle.ymx_model.specs.session.Records.{End, writer_send, writer_begin_fin, reader_announce}
use Rattle.ymx_model.specs.declared.types.FrameKind.{FrameKind}
use Rattle.ymx_model.specs.declared.types.FrameKind.TheVariants.{Open, OpenWith, Accept, Reset, Credit, Data, Fin}
use Rattle.ymx_machine.specs.shared.Limits.{first_credit}
use Rattle.ymx_header.specs.Frames.{frame_spelling}

abbrev pub is_empty : List ℕ → Bool
is_empty [] = true
is_empty (b ∷ bs) = false

-- credit is due when at least half the window is owed, or at once after a SYN that couldn't announce it
abbrev pub credit_due : ℕ → End → Bool
credit_due window e = is_live e.phase && not e.reader.ended && (e.marks.credit_at_once || nat_le window (2 * e.reader.owed))

-- the stream was finished, and its frame with FIN hasn't begun; that goes after the last byte
abbrev pub fin_due : End → Bool
fin_due e = e.writer.finished && not e.writer.fin_sent

-- the first that is due
abbrev pub next_kind : ℕ → End → Option FrameKind
next_kind window e =
    if e.marks.syn then Some (if e.marks.with_data then OpenWith else Open)
    else if e.marks.ack then Some Accept
    else if e.marks.rst then Some Reset
    else if credit_due window e then Some Credit
    else if not (is_empty e.writer.unsent) then Some Data
    else if fin_due e then Some Fin
    else None

abbrev pub is_due : ℕ → End → Bool
is_due window e = e.marks.syn || e.marks.ack || e.marks.rst || credit_due window e || not (is_empty e.writer.unsent) || fin_due e

-- what the first byte of the frame changes; Data carries as many unsent bytes as the limit allows
abbrev pub begin_frame : ℕ → ℕ → FrameKind → End → End
begin_frame window limit Open e = record e { reader = reader_announce (window - first_credit) e.reader; marks = record e.marks { syn = false } }
begin_frame window limit OpenWith e = record e { writer = writer_send limit e.writer; marks = record e.marks { syn = false; with_data = false } }
begin_frame window limit Accept e = record e { reader = reader_announce (window - first_credit) e.reader; marks = record e.marks { ack = false } }
begin_frame window limit Reset e = record e { marks = record e.marks { rst = false } }
begin_frame window limit Credit e = record e { reader = reader_announce e.reader.owed e.reader; marks = record e.marks { credit_at_once = false } }
begin_frame window limit Data e = record e { writer = writer_send limit e.writer }
begin_frame window limit Fin e = record e { writer = writer_begin_fin e.writer }

-- a frame is its header and its payload: type, flags, id, length, payload
abbrev pub frame : ℕ → ℕ → ℕ → ℕ → List ℕ → List ℕ
frame kind flags id length payload =
    frame_spelling (record { header = record { version = 0; kind = kind; flags = flags; id = id; length = length }; payload = payload })

-- the one spelling of each frame of the stream `id`
abbrev pub spelled : FrameKind → ℕ → ℕ → ℕ → End → List ℕ
spelled Open window limit id e = frame 1 1 id (window - first_credit) []
spelled OpenWith window limit id e = frame 0 1 id (length (take limit e.writer.unsent)) (take limit e.writer.unsent)
spelled Accept window limit id e = frame 1 2 id (window - first_credit) []
spelled Reset window limit id e = frame 1 8 id 0 []
spelled Credit window limit id e = frame 1 0 id e.reader.owed []
spelled Data window limit id e = frame 0 0 id (length (take limit e.writer.unsent)) (take limit e.writer.unsent)
spelled Fin window limit id e = frame 1 4 id 0 []
