-- What callers of a session did whose history stands in proofs (this project's own).
use Rattle.std.specs.Prelude.{◌≡◌, ◌⊎◌, ℕ, zero, suc, List, false, Option, Some, None, Ok}
use mathlib.Core.List.{IsPrefix}
use Rattle.ymx_machine.specs.declared.types.Reply.TheVariants as reply
use Rattle.ymx_model.specs.declared.types.Entry.{Entry}
use Rattle.ymx_seats.specs.Views.{SeatView}
use Rattle.ymx_hub.specs.Books.{Books, Spends, Closes, to_finish}
use Rattle.ymx_hub.specs.Rights.{WritesAlone, ReadsAlone}
use Rattle.ymx_hub.specs.Shown.{IsShown, BooksShown}
use Rattle.ymx_hub.specs.Halves.{HalfView, OpensHalves, AcceptsHalves}
use Rattle.ymx_hub.specs.Turns.{WriteTurns}
use Rattle.ymx_connect.specs.Streams.{ReadsUpTo, WritesOn}

-- ---- last calls

-- A half made its last call, whose entries are such, and its seat is gone. The caller has seen the whole history after it: of
-- its own nothing is new there, and of the half just these entries, after all that the half had seen.
pub record SeesLast (old new half : SeatView) (Such : List Entry → Type 0) : Type 0 where
  pub last : SeatView
  pub booked : BooksShown false half last Such
  pub shown : IsShown old new
  pub seen : new.seen ≡ last.seen

-- The writing half of a stream made its last call, and finished it. Nobody else had written, finished or reset it, unless the stream was
-- given twice.
pub record FinishesHalf (old new : SeatView) (writer : HalfView) : Type 0 where
  pub sees : SeesLast old new writer.seat (Spends (to_finish writer.id) writer.id writer.seat.number (Ok tt))
  pub alone : WritesAlone writer.id writer.seat.number new.seen

-- The reading half of a stream was closed, which adds nothing, or gives the stream up. Nobody else had read it by then, unless the stream
-- was given twice.
pub record ClosesHalf (old new : SeatView) (reader : HalfView) : Type 0 where
  pub sees : SeesLast old new reader.seat (Closes reader.id reader.seat.number (Ok tt))
  pub alone : ReadsAlone reader.id reader.seat.number new.seen

-- ---- what programs do with one stream

-- what was seen is a beginning of what was seen later
abbrev pub StandsIn : (seen later : Option (List Entry)) → Type 0
StandsIn None None = Unit {0}
StandsIn (Some seen) (Some later) = IsPrefix seen later
StandsIn _ _ = ⊥

-- In this history a caller opened a stream, the text was written to it, and it was finished; reads of it gave these bytes, up to the
-- end. Nobody else had written to it as it was finished, or read it as its reading half was closed, unless the stream was given twice.
pub record Exchanges (text bytes : List ℕ) (seen : Option (List Entry)) : Type 0 where
  pub caller : SeatView
  pub opened : SeatView
  pub writer : HalfView
  pub reader : HalfView
  pub wrote : SeatView
  pub finished : SeatView
  pub read : SeatView
  pub closed : SeatView
  pub opens : Books false caller opened (OpensHalves caller.number (Ok (writer, reader)))
  pub writes : Books false writer.seat wrote (WriteTurns writer.id text writer.seat.number (Ok tt))
  pub finishes : SeesLast opened finished wrote (Spends (to_finish writer.id) writer.id wrote.number (Ok tt))
  pub writes_alone : WritesAlone writer.id writer.seat.number finished.seen
  pub reads : Books false reader.seat read (ReadsUpTo reply.ReadEnd reader.id reader.seat.number bytes)
  pub closes : SeesLast finished closed read (Closes reader.id read.number (Ok tt))
  pub reads_alone : ReadsAlone reader.id reader.seat.number closed.seen
  pub within : StandsIn closed.seen seen

-- In this history a caller accepted this stream, reads of it gave these bytes, up to the end, these were written to it, and it was
-- finished. Nobody else had written to it as it was finished, or read it as its reading half was closed, unless the stream was given
-- twice.
pub record Echoes (id : ℕ) (bytes : List ℕ) (seen : Option (List Entry)) : Type 0 where
  pub caller : SeatView
  pub accepted : SeatView
  pub writer : HalfView
  pub reader : HalfView
  pub read : SeatView
  pub wrote : SeatView
  pub finished : SeatView
  pub closed : SeatView
  pub same : writer.id ≡ id
  pub accepts : Books false caller accepted (AcceptsHalves caller.number (Ok (Some (writer, reader))))
  pub reads : Books false reader.seat read (ReadsUpTo reply.ReadEnd reader.id reader.seat.number bytes)
  pub writes : Books false writer.seat wrote (WritesOn writer.id writer.seat.number bytes)
  pub finishes : SeesLast accepted finished wrote (Spends (to_finish writer.id) writer.id wrote.number (Ok tt))
  pub writes_alone : WritesAlone writer.id writer.seat.number finished.seen
  pub closes : SeesLast finished closed read (Closes reader.id read.number (Ok tt))
  pub reads_alone : ReadsAlone reader.id reader.seat.number closed.seen
  pub within : StandsIn closed.seen seen

-- One stream was echoed, accepted by a caller that had seen this history before, and it stands in this one.
abbrev pub EchoesNext : (before seen : Option (List Entry)) → Type 0
EchoesNext before seen = (id : ℕ) × (bytes : List ℕ) × (e : Echoes id bytes seen) × (e.caller.seen ≡ before)

-- So many streams were echoed in this history, one after another, or more.
abbrev pub EchoesMany : (count : ℕ) → (seen : Option (List Entry)) → Type 0
EchoesMany zero seen = Unit {0}
EchoesMany (suc count) seen = (id : ℕ) × (bytes : List ℕ) × (e : Echoes id bytes seen) × EchoesMany count e.caller.seen

-- this stream is one of them
abbrev pub HasEchoed : (id count : ℕ) → (seen : Option (List Entry)) → EchoesMany count seen → Type 0
HasEchoed id zero seen e = ⊥
HasEchoed id (suc count) seen e = (e.0 ≡ id) ⊎ HasEchoed id count e.2.caller.seen e.3
