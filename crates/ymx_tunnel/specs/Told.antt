-- What the seat of a half tells of its calls and of how they ended (this project's own).
use Rattle.std.specs.Prelude.{◌≡◌, ℕ, ◌⊎◌, List, ◌∷◌, ◌++◌, Bool, true, false, Option, Some, None, IfSome}
use Rattle.ymx_machine.specs.shared.Evidence.{evidence}
use Rattle.ymx_machine.specs.declared.types.Reply.TheVariants as reply
use Rattle.ymx_model.specs.declared.types.Entry.{Entry}
use Rattle.ymx_machine.specs.declared.types.CallFault.{CallFault}
use Rattle.ymx_seats.specs.Journals.{part}
use Rattle.ymx_seats.specs.Views.{SeatView}
use Rattle.ymx_hub.specs.declared.faults.HubFault.{HubFault}
use Rattle.ymx_hub.specs.declared.faults.HubFault.TheVariants.{Memory}
use Rattle.ymx_hub.specs.Answers.{hub_fault_of}

-- the entries of this caller in the history that it has seen, where there is a journal
abbrev pub part_seen : ℕ → Option (List Entry) → Option (List Entry)
part_seen number None = None
part_seen number (Some seen) = Some (part number seen)

-- The entries of a seat: those that it keeps, or its own in the history that it has seen. With the recorder `Off` there are none to see.
abbrev pub own_entries : (keeps : Bool) → SeatView → Option (List Entry)
own_entries true seat = Some seat.entries
own_entries false seat = part_seen seat.number seat.seen

-- the bytes that such entries carried
abbrev pub carried : (List Entry → List ℕ) → Option (List Entry) → Option (List ℕ)
carried bytes None = None
carried bytes (Some entries) = Some (bytes entries)

-- one of these entries is a read that gave the end
abbrev pub HasSaidEnd : List Entry → Type 0
HasSaidEnd entries = (before : List Entry) × (e : Entry) × (after : List Entry) × (entries ≡ before ++ e ∷ after) × (e.reply ≡ reply.ReadEnd)

-- one of these entries was refused, which the fault says; or the fault is lack of memory, which no entry need tell
abbrev pub HasToldRefusal : HubFault → List Entry → Type 0
HasToldRefusal fault entries =
    (fault ≡ Memory evidence)
    ⊎ ((why : CallFault) × (fault ≡ hub_fault_of why) × (before : List Entry) × (e : Entry) × (after : List Entry) × (entries ≡ before ++ e ∷ after) × (e.reply ≡ reply.Refused why))

-- where the entries can be seen, they say the end
abbrev pub SaidEnd : Option (List Entry) → Type 0
SaidEnd entries = IfSome entries HasSaidEnd

-- where the entries can be seen, they tell this refusal
abbrev pub ToldRefusal : HubFault → Option (List Entry) → Type 0
ToldRefusal fault entries = IfSome entries (HasToldRefusal fault)
