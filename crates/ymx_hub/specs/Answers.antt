-- What a hub answers for what its session answered (this project's own).
use Rattle.std.specs.Prelude.{◌≡◌, ◌⊎◌, ℕ, ◌<◌, Bool, true, false, Result, Ok, Err, IfErr}
use Rattle.ymx_machine.specs.shared.Evidence.{evidence}
use Rattle.ymx_machine.specs.declared.types.CallFault.{CallFault}
use Rattle.ymx_machine.specs.declared.types.CallFault.TheVariants.{OutOfMemory, Closed}
use Rattle.ymx_model.specs.declared.types.Got.{Got}
use Rattle.ymx_model.specs.declared.types.Got.TheVariants as got
use Rattle.ymx_machine.specs.declared.types.Call.TheVariants as call
use Rattle.ymx_machine.specs.shared.Events.{Call as CallOfLists}
use Rattle.ymx_machine.specs.declared.types.Wrote.{Wrote}
use Rattle.ymx_machine.specs.declared.types.Wrote.TheVariants as wrote
use Rattle.ymx_hub.specs.declared.faults.HubFault.{HubFault}
use Rattle.ymx_hub.specs.declared.faults.HubFault.TheVariants.{Call, Memory, Seats}
use Rattle.ymx_hub.specs.declared.refused_seat.RefusedSeat.{RefusedSeat}
use Rattle.ymx_hub.specs.declared.released_ids.RefusedRelease.{RefusedRelease}

-- the one value of the evidence that no seat was left
abbrev pub refused_seat : RefusedSeat
refused_seat = record { seal = tt }

-- the one value of the evidence that no stream more could be released
abbrev pub refused_release : RefusedRelease
refused_release = record { seal = tt }

-- lack of memory is the hub's own fault, whichever call found it
abbrev pub hub_fault_of : CallFault → HubFault
hub_fault_of (OutOfMemory _) = Memory evidence
hub_fault_of fault = Call fault

abbrev pub hub_answer : {A : Type 0} → Result A CallFault → Result A HubFault
hub_answer (Ok x) = Ok x
hub_answer (Err fault) = Err (hub_fault_of fault)

-- the answer is no lack of memory
abbrev pub IsNotMemory : {A : Type 0} → Result A HubFault → Type 0
IsNotMemory result = IfErr result (λ fault. fault ≡ Memory evidence → ⊥)

-- the call takes no memory but that of its entry
abbrev pub TakesNone : CallOfLists → Type 0
TakesNone call.Open = ⊥
TakesNone (call.OpenWith bytes) = ⊥
TakesNone (call.Write id bytes) = ⊥
TakesNone _ = Unit {0}

-- why there is no seat: no seat was left; or, where entries are kept, the transcript was handed out
abbrev pub IsSeatFault : (keeps : Bool) → HubFault → Type 0
IsSeatFault true fault = (fault ≡ Call Closed) ⊎ (fault ≡ Seats refused_seat)
IsSeatFault false fault = fault ≡ Seats refused_seat

-- how many bytes a write took
abbrev pub took_count : Wrote → ℕ
took_count (wrote.Took n) = n
took_count wrote.Wait = 0

-- a read that gives bytes gives one at least
abbrev pub GivesSome : Got → Type 0
GivesSome (got.Bytes n) = 0 < n
GivesSome got.End = Unit {0}
GivesSome got.Wait = Unit {0}
