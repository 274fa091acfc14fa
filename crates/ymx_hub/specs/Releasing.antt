-- What a hub does with a stream whose reader is done with it (this project's own).
use Rattle.std.specs.Prelude.{◌≡◌, ◌≢◌, ℕ, ◌≤◌, ◌<◌, ◌⊎◌, List, [], ◌∷◌, ◌++◌, length, slice_index_or, Contains, IsPermutation, Bool, true, false, Result, Ok, Err}
use Rattle.ymx_memory.specs.declared.refused.RefusedAllocation.{RefusedAllocation}
use Rattle.ymx_machine.specs.shared.Evidence.{evidence}
use Rattle.ymx_machine.specs.shared.Lists.{look}
use Rattle.ymx_machine.specs.declared.types.CallFault.{CallFault}
use Rattle.ymx_machine.specs.shared.Events.{Reply}
use Rattle.ymx_machine.specs.declared.types.Reply.TheVariants as reply
use Rattle.ymx_model.specs.declared.types.Entry.{Entry}
use Rattle.ymx_model.specs.declared.types.Role.{Role}
use Rattle.ymx_model.specs.declared.types.Config.{Config}
use Rattle.ymx_model.specs.session.Sessions.{Session}
use Rattle.ymx_model.specs.session.Calls.{read_from}
use Rattle.ymx_seats.specs.Views.{SeatView}
use Rattle.ymx_hub.specs.declared.faults.HubFault.{HubFault}
use Rattle.ymx_hub.specs.declared.faults.HubFault.TheVariants as fault
use Rattle.ymx_hub.specs.declared.releasing.Look.{Look}
use Rattle.ymx_hub.specs.declared.releasing.Look.TheVariants.{Waits as LookWaits, Lacks, Spent}
use Rattle.ymx_hub.specs.Answers.{IsNotMemory, refused_release}
use Rattle.ymx_hub.specs.Booked.{BookedView, spent}
use Rattle.ymx_hub.specs.Books.{Closes, to_read}
use Rattle.ymx_hub.specs.Shown.{BooksShown}
use Rattle.ymx_hub.specs.Turns.{EndsIn}
use Rattle.ymx_hub.specs.WholeHistories.{IsHistoryOf}

-- each entry names this seat, and is a read of this stream
abbrev pub AreReads : (id seat : ℕ) → List Entry → Type 0
AreReads id seat [] = Unit {0}
AreReads id seat (e ∷ es) = ((e.seat ≡ seat) × ((size : ℕ) × (e.event ≡ to_read id size))) × AreReads id seat es

-- a read found that nothing more comes: the end, or a refusal
abbrev pub FindsEnd : Reply → Type 0
FindsEnd told = (told ≡ reply.ReadEnd) ⊎ ((why : CallFault) × (told ≡ reply.Refused why))

-- reads, of which the last found that nothing more comes, if this is answered
abbrev pub ReadsUp : (id seat : ℕ) → Result Bool RefusedAllocation → List Entry → Type 0
ReadsUp id seat (Ok true) added = AreReads id seat added × EndsIn FindsEnd added
ReadsUp id seat (Ok false) added = AreReads id seat added
ReadsUp id seat (Err refused) added = AreReads id seat added

-- Reads of the stream, of which the last found that nothing more comes. Then its half was spent, which gives the answer.
abbrev pub ReadsOut : (id seat : ℕ) → Result (Unit {0}) HubFault → List Entry → Type 0
ReadsOut id seat answer added =
    (reads : List Entry) × (last : List Entry) × (added ≡ reads ++ last) × AreReads id seat reads
    × EndsIn FindsEnd reads × Closes id seat answer last

-- Reads of the stream. Its half is spent only after one that found that nothing more comes, which gives the answer. Nothing else
-- is refused but for lack of memory for an entry.
abbrev pub Tends : (id seat : ℕ) → Result (Unit {0}) HubFault → List Entry → Type 0
Tends id seat (Ok u) added = AreReads id seat added ⊎ ReadsOut id seat (Ok u) added
Tends id seat (Err why) added = ((why ≡ fault.Memory evidence) × AreReads id seat added) ⊎ ReadsOut id seat (Err why) added

-- that, or there was no room for one stream more that is released, and nothing was done
abbrev pub Releases : (id seat : ℕ) → Result (Unit {0}) HubFault → List Entry → Type 0
Releases id seat answer added =
    Tends id seat answer added ⊎ ((answer ≡ Err (fault.Releases refused_release)) × (added ≡ []))

-- the same, as a look at the stream ended
abbrev pub Looks : (id seat : ℕ) → Look → List Entry → Type 0
Looks id seat LookWaits added = AreReads id seat added
Looks id seat (Lacks refused) added = AreReads id seat added
Looks id seat (Spent answer) added = ReadsOut id seat answer added

-- it found memory for all that it asks for
abbrev pub spares_memory : Look → Type 0
spares_memory LookWaits = Unit {0}
spares_memory (Lacks refused) = ⊥
spares_memory (Spent answer) = IsNotMemory answer

-- the entries of some streams, one stream after another
abbrev pub joined : List (ℕ × List Entry) → List Entry
joined [] = []
joined (p ∷ ps) = p.1 ++ joined ps

-- each stream was looked at so, whatever was answered
abbrev pub AllTend : (seat : ℕ) → List (ℕ × List Entry) → Type 0
AllTend seat [] = Unit {0}
AllTend seat (p ∷ ps) = ((answer : Result (Unit {0}) HubFault) × Tends p.0 seat answer p.1) × AllTend seat ps

-- that of some streams
abbrev pub Purges : (seat : ℕ) → List Entry → Type 0
Purges seat added = (parts : List (ℕ × List Entry)) × (added ≡ joined parts) × AllTend seat parts

-- each is one of these
abbrev pub AllAmong : List ℕ → List (ℕ × List Entry) → Type 0
AllAmong ids [] = Unit {0}
AllAmong ids (p ∷ ps) = Contains ids p.0 × AllAmong ids ps

-- that of some streams, each of which is one of these
abbrev pub PurgesAmong : List ℕ → (seat : ℕ) → List Entry → Type 0
PurgesAmong ids seat added =
    (parts : List (ℕ × List Entry)) × (added ≡ joined parts) × AllTend seat parts × AllAmong ids parts

-- that of one stream, which is one of these
abbrev pub LooksAmong : List ℕ → (seat : ℕ) → List Entry → Type 0
LooksAmong ids seat added = (id : ℕ) × (answer : Result (Unit {0}) HubFault) × Tends id seat answer added × Contains ids id

-- ---- what becomes of them under the lock

-- a read of this stream finds nothing, and more may come
abbrev pub Waits : Session → ℕ → Type 0
Waits s id = (read_from id 1 s).reply ≡ reply.ReadWait

-- Nothing that has come of this stream is left: nothing more comes, as a read by this seat has found; or a read of it waits, in
-- the session to which the history in the sight of the seat leads.
abbrev pub IsDropped : (keeps witnessed : Bool) → Role → Config → (id : ℕ) → (old new : SeatView) → Type 0
IsDropped keeps witnessed role config id old new =
    BooksShown keeps old new (ReadsOut id old.number (Ok tt))
    ⊎ ((s : Session) × IsHistoryOf witnessed role config new.seen s × Waits s id)

-- so it is at each of these from this place on
abbrev pub WaitFrom : Session → List ℕ → (place : ℕ) → Type 0
WaitFrom s ids place = (at d : ℕ) → place ≤ at → at < length ids → Waits s (slice_index_or ids at d)

-- so it is at each of these
abbrev pub AllWait : Session → List ℕ → Type 0
AllWait s ids = WaitFrom s ids 0

-- the session's status stays, and so does each stream but this one
pub record OthersStay (id : ℕ) (s t : Session) : Type 0 where
  pub status : t.status ≡ s.status
  pub others : (other : ℕ) → other ≢ id → look other t.table.entries ≡ look other s.table.entries

-- one more half of each of these streams is spent
abbrev pub all_spent : List ℕ → BookedView → BookedView
all_spent [] h = h
all_spent (x ∷ xs) h = all_spent xs (spent x h)

-- the half is spent, where the look ended so
abbrev pub spent_by : Look → ℕ → BookedView → BookedView
spent_by (Spent answer) id h = spent id h
spent_by _ id h = h

-- the same halves are spent in both
abbrev pub SpentAlike : BookedView → BookedView → Type 0
SpentAlike h k = (k.unspent ≡ h.unspent) × (k.half_spent ≡ h.half_spent)

-- These streams are released no more, and a half of each is spent. All others are left, none is new, and no other half is spent.
pub record Leaves (gone before after : List ℕ) (old new : BookedView) : Type 0 where
  pub parts : IsPermutation before (gone ++ after)
  pub halves : SpentAlike (all_spent gone old) new

-- some leave
abbrev pub LeavesSome : (before after : List ℕ) (old new : BookedView) → Type 0
LeavesSome before after old new = (gone : List ℕ) × Leaves gone before after old new

-- one stream more is released, and no half is spent; or none is, as its half is spent, or as there was no room
abbrev pub ReleasesOne : (id : ℕ) → Result (Unit {0}) HubFault → (before after : List ℕ) (old new : BookedView) → Type 0
ReleasesOne id answer before after old new =
    ((after ≡ before ++ id ∷ []) × SpentAlike old new)
    ⊎ ((after ≡ before) × SpentAlike (spent id old) new)
    ⊎ ((answer ≡ Err (fault.Releases refused_release)) × (after ≡ before) × (new ≡ old))
