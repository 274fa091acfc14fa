-- What contracts see of a stream, and what its calls did (this project's own).
use Rattle.std.specs.Prelude.{◌≡◌, ℕ, List, [], Bool, false, Option, Some, None, Ok}
use Rattle.ymx_seats.specs.Views.{SeatView, IsNewcomer}
use Rattle.ymx_hub.specs.Books.{Books, Spends, to_finish}
use Rattle.ymx_hub.specs.Halves.{HalfView, OpensHalves, AcceptsHalves}
use Rattle.ymx_hub.specs.Turns.{WriteTurns}
use Rattle.ymx_connect.specs.Streams.{Copies}
use Rattle.ymx_connect.specs.Told.{FinishesHalf}

-- a reading half: who opened or accepted its stream, and the half
pub record ReaderView : Type 0 where
  pub caller : SeatView
  pub half : HalfView

-- a stream: its writing half, unless it was finished, and its reading half
pub record StreamView : Type 0 where
  pub writer : Option HalfView
  pub reader : ReaderView

-- a caller that had made no call made this one, and its seat is that of the stream
pub record IsGiven (keeps : Bool) (stream : StreamView) (Such : ℕ → HalfView × HalfView → SeatView → SeatView → Type 0) : Type 0 where
  pub before : SeatView
  pub after : SeatView
  pub writer : HalfView
  pub fresh : IsNewcomer before.number before.seen
  pub unfinished : stream.writer ≡ Some writer
  pub caller : stream.reader.caller ≡ record after { entries = []; room = 0 }
  pub booked : Such before.number (writer, stream.reader.half) before after

abbrev pub IsOpened : Bool → StreamView → Type 0
IsOpened keeps stream = IsGiven keeps stream (λ seat made before after. Books keeps before after (OpensHalves seat (Ok made)))

abbrev pub IsAccepted : Bool → StreamView → Type 0
IsAccepted keeps stream = IsGiven keeps stream (λ seat made before after. Books keeps before after (AcceptsHalves seat (Ok (Some made))))

-- an unfinished half wrote all these bytes
abbrev pub WritesAll : Bool → List ℕ → (old new : Option HalfView) → Type 0
WritesAll keeps bytes old new =
    (before : HalfView) × (after : HalfView) × (old ≡ Some before) × (new ≡ Some after) × (after.id ≡ before.id)
    × Books keeps before.seat after.seat (WriteTurns before.id bytes before.seat.number (Ok tt))

-- an unfinished half finished its stream, and is no more
abbrev pub Finishes : Bool → (old new : Option HalfView) → Type 0
Finishes keeps old new =
    (before : HalfView) × (last : SeatView) × (old ≡ Some before) × (new ≡ None)
    × Books keeps before.seat last (Spends (to_finish before.id) before.id before.seat.number (Ok tt))

-- all that was read up to the end was written to an unfinished half
abbrev pub CopiesAll : Bool → (reader read : ReaderView) → (old new : Option HalfView) → ℕ → Type 0
CopiesAll keeps reader read old new count =
    (before : HalfView) × (after : HalfView) × (old ≡ Some before) × (new ≡ Some after) × (after.id ≡ before.id) × (read.half.id ≡ reader.half.id)
    × Copies keeps reader.half before read.half.seat after.seat count

-- ---- by a caller who has then seen it

abbrev pub OpensAt : (old new : SeatView) → StreamView → Type 0
OpensAt old new stream = (writer : HalfView) × (stream.writer ≡ Some writer) × Books false old new (OpensHalves old.number (Ok (writer, stream.reader.half)))

abbrev pub AcceptsAt : (old new : SeatView) → StreamView → Type 0
AcceptsAt old new stream = (writer : HalfView) × (stream.writer ≡ Some writer) × Books false old new (AcceptsHalves old.number (Ok (Some (writer, stream.reader.half))))

abbrev pub FinishesAt : Option HalfView → (old new : SeatView) → Type 0
FinishesAt writer old new = (half : HalfView) × (writer ≡ Some half) × FinishesHalf old new half
