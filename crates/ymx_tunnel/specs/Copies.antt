-- What a copy moves (this project's own).
use Rattle.std.specs.Prelude.{◌≡◌, ℕ, ◌-◌, ◌^◌, ◌⊎◌, min, List, length, Option, Some, None}
use Rattle.std.specs.Io.{StartsWith}
use Rattle.std.specs.Io.KnownBytes.{Appends, Consumes, IsAtEnd}
use Rattle.ymx_memory.specs.declared.refused.RefusedAllocation.{RefusedAllocation}
use Rattle.ymx_machine.specs.declared.types.CallFault.TheVariants as refusal
use Rattle.ymx_hub.specs.declared.faults.HubFault.{HubFault}
use Rattle.ymx_hub.specs.declared.faults.HubFault.TheVariants.{Call, Memory}
use Rattle.ymx_tunnel.specs.declared.copied.CopyWhy.{CopyWhy}
use Rattle.ymx_tunnel.specs.declared.copied.CopyWhy.TheVariants.{End, Reset, Lost}

-- a stream that was reset and a session that was lost are told apart from all else
abbrev pub copy_reason : HubFault → CopyWhy → CopyWhy
copy_reason (Call refusal.Reset) own = Reset
copy_reason (Call refusal.Lost) own = Lost
copy_reason fault own = own

-- the lack of memory, if that was the fault
abbrev pub memory_lacked : HubFault → Option RefusedAllocation
memory_lacked (Memory refused) = Some refused
memory_lacked _ = None

-- of what was given, this beginning was moved on, and counted as far as 64 bits go; it is all of it if the copy came to its end
pub record IsMoved (given moved : List ℕ) (bytes : ℕ) (why : CopyWhy) : Type 0 where
  pub beginning : StartsWith given moved
  pub counted : bytes ≡ min (length moved) (2 ^ 64 - 1)
  pub all : why ≡ End → moved ≡ given

-- What a reader gave was moved into a sink. At the end the reader has none left.
abbrev pub CopiesIn : (reader after : Option (List ℕ)) (sink left : Option (List ℕ)) (bytes : ℕ) (why : CopyWhy) → Type 0
CopiesIn reader after sink left bytes why =
    (given : List ℕ) × (moved : List ℕ) × Consumes reader after given × Appends sink left moved × IsMoved given moved bytes why × (why ≡ End → IsAtEnd after)

-- What a source gave was moved into a writer.
abbrev pub CopiesOut : (source left : Option (List ℕ)) (writer after : Option (List ℕ)) (bytes : ℕ) (why : CopyWhy) → Type 0
CopiesOut source left writer after bytes why =
    (given : List ℕ) × (moved : List ℕ) × Appends source left given × Appends writer after moved × IsMoved given moved bytes why

-- a copy came to its end, and nothing was wanting
abbrev pub EndsWell : (why : CopyWhy) (lack : Option RefusedAllocation) → Type 0
EndsWell why lack = (why ≡ End) × (lack ≡ None)

-- A copy stopped at this fault of its half, and told whether it was lack of memory. `own` names the half where the fault says no more.
abbrev pub StopsAt : HubFault → (own why : CopyWhy) (lack : Option RefusedAllocation) → Type 0
StopsAt fault own why lack = (why ≡ copy_reason fault own) × (lack ≡ memory_lacked fault)

-- A copy stopped, for the device, which wants no memory, or at a fault by which the half refused.
abbrev pub StopsFor : (Refused : HubFault → Type 0) → (device own why : CopyWhy) (lack : Option RefusedAllocation) → Type 0
StopsFor Refused device own why lack =
    ((why ≡ device) × (lack ≡ None)) ⊎ ((fault : HubFault) × StopsAt fault own why lack × Refused fault)
