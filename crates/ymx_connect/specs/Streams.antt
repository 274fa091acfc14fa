-- What `read_all` and `copy` add to the lists of their seats (this project's own).
use Rattle.std.specs.Prelude.{◌≡◌, ℕ, ◌-◌, ◌^◌, ◌⊎◌, min, List, [], ◌∷◌, ◌++◌, length, Bool}
use Rattle.ymx_machine.specs.shared.Events.{Reply}
use Rattle.ymx_machine.specs.declared.types.Reply.TheVariants as reply
use Rattle.ymx_model.specs.declared.types.Entry.{Entry}
use Rattle.ymx_seats.specs.Views.{SeatView}
use Rattle.ymx_hub.specs.Books.{Books, One, to_read, to_write}
use Rattle.ymx_hub.specs.Turns.{IsUnrefused}
use Rattle.ymx_hub.specs.Carried.{read_bytes, bytes_written}
use Rattle.ymx_hub.specs.Halves.{HalfView}

-- ---- reads

-- a read gave bytes, or was told to wait
abbrev pub HasGiven : Reply → Type 0
HasGiven told = (told ≡ reply.ReadWait) ⊎ ((bytes : List ℕ) × (told ≡ reply.Read bytes))

-- each entry is a read of this stream by this seat, which gave bytes or was told to wait
abbrev pub AreReads : (id seat : ℕ) → List Entry → Type 0
AreReads id seat [] = Unit {0}
AreReads id seat (e ∷ es) = ((e.seat ≡ seat) × ((size : ℕ) × (e.event ≡ to_read id size)) × HasGiven e.reply) × AreReads id seat es

-- such reads, which gave these bytes, one after another
abbrev pub ReadsOn : (id seat : ℕ) → List ℕ → List Entry → Type 0
ReadsOn id seat bytes added = AreReads id seat added × (read_bytes added ≡ bytes)

-- these, and then one that was answered so
abbrev pub ReadsUpTo : Reply → (id seat : ℕ) → List ℕ → List Entry → Type 0
ReadsUpTo told id seat bytes added =
    (reads : List Entry) × (last : List Entry) × (size : ℕ) × (added ≡ reads ++ last) × ReadsOn id seat bytes reads × One seat (to_read id size) told last

-- ---- writes

-- each entry is a write to this stream by this seat
abbrev pub AreWritesTo : (id seat : ℕ) → List Entry → Type 0
AreWritesTo id seat [] = Unit {0}
AreWritesTo id seat (e ∷ es) = ((e.seat ≡ seat) × ((bytes : List ℕ) × (e.event ≡ to_write id bytes))) × AreWritesTo id seat es

-- such writes, which took these bytes, one after another
abbrev pub WritesOf : (id seat : ℕ) → List ℕ → List Entry → Type 0
WritesOf id seat bytes added = AreWritesTo id seat added × (bytes_written added ≡ bytes)

-- these, and none was refused at last
abbrev pub WritesOn : (id seat : ℕ) → List ℕ → List Entry → Type 0
WritesOn id seat bytes added = WritesOf id seat bytes added × IsUnrefused added

-- ---- a copy

-- Read up to the end, and all of it was written, and counted as far as 64 bits go: what the seats of both halves have booked.
pub record Copies (keeps : Bool) (reader writer : HalfView) (reads writes : SeatView) (count : ℕ) : Type 0 where
  pub bytes : List ℕ
  pub counted : count ≡ min (length bytes) (2 ^ 64 - 1)
  pub read : Books keeps reader.seat reads (ReadsUpTo reply.ReadEnd reader.id reader.seat.number bytes)
  pub written : Books keeps writer.seat writes (WritesOn writer.id writer.seat.number bytes)
