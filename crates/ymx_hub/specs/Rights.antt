-- What callers may do to streams, and what follows for a history (this project's own).
use Rattle.std.specs.Prelude.{◌≡◌, ◌≢◌, ◌⊎◌, ◌-◌, ℕ, List, length, slice_get, Contains, Option, Some, None}
use Rattle.ymx_machine.specs.declared.types.Call.TheVariants as call
use Rattle.ymx_model.specs.session.Events.{Event}
use Rattle.ymx_model.specs.declared.types.Event.TheVariants as event
use Rattle.ymx_model.specs.declared.types.Entry.{Entry}
use Rattle.ymx_seats.specs.declared.plays.Right.{Right}
use Rattle.ymx_seats.specs.declared.plays.Right.TheVariants.{Writes, Reads, Released}
use Rattle.ymx_seats.specs.Journals.{JournalView}
use Rattle.ymx_seats.specs.Views.{SeatView, with_caller}
use Rattle.ymx_hub.specs.Books.{TellsStream}

-- ---- who may do what

-- who has this right may write, finish and reset this stream
abbrev pub MayWrite : Right → (id : ℕ) → Type 0
MayWrite right id = (at : ℕ) × (right ≡ Writes id at)

-- who has this right may read this stream
abbrev pub MayRead : Right → (id : ℕ) → Type 0
MayRead right id = (at : ℕ) × (right ≡ Reads id at)

-- these seats may do what both halves of this stream do: the writing half, and the reading half
abbrev pub HaveHalves : (id : ℕ) → (one other : SeatView) → Type 0
HaveHalves id one other = MayWrite one.right id × MayRead other.right id

-- Who has this right may do this, where the reads of such streams were released to all callers. Each caller may do what is no call
-- of a half.
abbrev pub MayDo : (WasReleased : ℕ → Type 0) → Right → Event → Type 0
MayDo WasReleased right (event.Call (call.Write id bytes)) = MayWrite right id
MayDo WasReleased right (event.Call (call.Finish id)) = MayWrite right id
MayDo WasReleased right (event.Call (call.Reset id)) = MayWrite right id
MayDo WasReleased right (event.Call (call.Read id room)) = MayRead right id ⊎ WasReleased id
MayDo WasReleased right _ = Unit {0}

-- a call of the writing half of this stream
abbrev pub IsWriters : (id : ℕ) → Event → Type 0
IsWriters id (event.Call (call.Write other bytes)) = other ≡ id
IsWriters id (event.Call (call.Finish other)) = other ≡ id
IsWriters id (event.Call (call.Reset other)) = other ≡ id
IsWriters id _ = ⊥

-- a read of this stream
abbrev pub IsReaders : (id : ℕ) → Event → Type 0
IsReaders id (event.Call (call.Read other room)) = other ≡ id
IsReaders id _ = ⊥

-- the reads of this stream were released to all, by the caller who had them
abbrev pub IsReleased : List Right → (id : ℕ) → Type 0
IsReleased rights id = (n : ℕ) × (at : ℕ) × (slice_get rights n ≡ Some (Released id at))

-- the same of each of these streams, where there is a journal
abbrev pub AllReleased : List ℕ → Option JournalView → Type 0
AllReleased ids None = Unit {0}
AllReleased ids (Some j) = (id : ℕ) → Contains ids id → IsReleased j.rights id

-- who has this right has the writing half of the stream that the entry at this place gave
abbrev pub IsWriterAt : Right → (id at : ℕ) → Type 0
IsWriterAt right id at = right ≡ Writes id at

-- who has this right has its reading half, or had it
abbrev pub IsReaderAt : Right → (id at : ℕ) → Type 0
IsReaderAt right id at = (right ≡ Reads id at) ⊎ (right ≡ Released id at)

-- the entry at this place gave this stream
abbrev pub IsGivenAt : List Entry → (at id : ℕ) → Type 0
IsGivenAt es at id = (e : Entry) × (taken : ℕ) × (slice_get es at ≡ Some e) × TellsStream e.event id taken e.reply

-- A caller that has such a half was numbered for an entry that gave its stream, and no other caller was for the same entry.
pub record AreHandedOut (Has : Right → (id at : ℕ) → Type 0) (rights : List Right) (whole : List Entry) : Type 0 where
  pub given : (n id at : ℕ) (right : Right) → slice_get rights n ≡ Some right → Has right id at → IsGivenAt whole at id
  pub apart : (n m id other at : ℕ) (right last : Right) → slice_get rights n ≡ Some right → slice_get rights m ≡ Some last → Has right id at → Has last other at → n ≡ m

-- Each entry is one that its caller may make, by its number and by the rights as they are now. Each half of a stream was handed out to
-- one caller.
pub record AreRightful (rights : List Right) (whole : List Entry) : Type 0 where
  pub done : (place : ℕ) (e : Entry) → slice_get whole place ≡ Some e → (right : Right) × (slice_get rights e.seat ≡ Some right) × MayDo (IsReleased rights) right e.event
  pub writers : AreHandedOut IsWriterAt rights whole
  pub readers : AreHandedOut IsReaderAt rights whole

-- ---- what follows for a history

-- each such call of the stream in this history is this caller's, unless the stream was given by another entry too
abbrev pub IsSole : (Such : Event → Type 0) → (id at n : ℕ) → List Entry → Type 0
IsSole Such id at n es =
    (place : ℕ) (e : Entry) → slice_get es place ≡ Some e → Such e.event →
    (e.seat ≡ n) ⊎ ((other : ℕ) × (other ≢ at) × IsGivenAt es other id)

-- what the right of a caller says of a history in which all its entries stand
abbrev pub SaysSole : Right → (n : ℕ) → Option (List Entry) → Type 0
SaysSole (Writes id at) n (Some es) = IsGivenAt es at id × IsSole (IsWriters id) id at n es
SaysSole (Reads id at) n (Some es) = IsGivenAt es at id × IsSole (IsReaders id) id at n es
SaysSole _ n seen = Unit {0}

-- In this history a caller is the only one that made such calls of this stream, unless it was given twice.
abbrev pub DoesAlone : (Such : Event → Type 0) → (id n : ℕ) → Option (List Entry) → Type 0
DoesAlone Such id n None = ⊥
DoesAlone Such id n (Some es) = (at : ℕ) × IsGivenAt es at id × IsSole Such id at n es

-- it is the only one that wrote, finished or reset the stream
abbrev pub WritesAlone : (id n : ℕ) → Option (List Entry) → Type 0
WritesAlone id n seen = DoesAlone (IsWriters id) id n seen

-- it is the only one that read the stream
abbrev pub ReadsAlone : (id n : ℕ) → Option (List Entry) → Type 0
ReadsAlone id n seen = DoesAlone (IsReaders id) id n seen

-- ---- streams that are handed out

-- the place of the last entry, where there is a journal
abbrev pub last_place : Option JournalView → ℕ
last_place None = 0
last_place (Some j) = length j.whole - 1

-- both callers of a stream that the last entry gave: its writing half, and its reading half
abbrev pub handed_out : (id : ℕ) → Option JournalView → Option JournalView
handed_out id j = with_caller (Reads id (last_place j)) (with_caller (Writes id (last_place j)) j)
