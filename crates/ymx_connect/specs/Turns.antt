-- What one turn of a pump does (this project's own).
use Rattle.std.specs.Prelude.{◌≡◌, ℕ, ◌≤◌, ◌⊎◌, List, [], ◌++◌, length, take, drop, Bool, Option, None, Result, Ok, Err}
use Rattle.std.specs.Io.KnownBytes.{Appends, Consumes}
use Rattle.ymx_header.specs.declared.fault.Fault.{Fault}
use Rattle.ymx_machine.specs.shared.Evidence.{evidence}
use Rattle.ymx_model.specs.devices.Devices.{has_failed}
use Rattle.ymx_model.specs.declared.types.Event.TheVariants as event
use Rattle.ymx_machine.specs.declared.types.Reply.TheVariants as reply
use Rattle.ymx_model.specs.declared.types.Entry.{Entry}
use Rattle.ymx_seats.specs.Views.{SeatView}
use Rattle.ymx_hub.specs.Books.{Books, One}
use Rattle.ymx_model.specs.declared.types.Role.{Role}
use Rattle.ymx_model.specs.declared.types.Config.{Config}
use Rattle.ymx_hub.specs.declared.moving.Turn.TheVariants.{Emitted}
use Rattle.ymx_hub.specs.Pumped.{EmitsOnce, IsAwake}
use Rattle.ymx_hub.specs.Shown.{IsShown, BooksShown}
use Rattle.ymx_hub.specs.declared.purged.Purged.{Purged}
use Rattle.ymx_connect.specs.declared.pump_end.PumpWhy.{PumpWhy}
use Rattle.ymx_connect.specs.declared.pump_end.PumpWhy.TheVariants.{End, Device, Memory, NoThread}
use Rattle.ymx_connect.specs.declared.pump_end.Stop.{Stop}
use Rattle.ymx_connect.specs.Pumps.{AreEmits, WriteAdds, AreFeeds, TellsLast, fault_of_end, IsLeft, ReadAdds}

-- the pump ran, and ended for no reason of its device
abbrev pub IsInside : PumpWhy → Type 0
IsInside End = ⊥
IsInside Device = ⊥
IsInside NoThread = ⊥
IsInside _ = Unit {0}

-- the end of the input was said, or there was no memory for it
abbrev pub SaysEnd : ℕ → PumpWhy → PumpWhy → List Entry → Type 0
SaysEnd seat why result added =
    ((result ≡ why) × One seat event.FeedEnd reply.Done added) ⊎ ((result ≡ Memory evidence) × (added ≡ []))

-- ---- the write pump

-- a turn that went well, or the last one
abbrev pub TurnWrote : (keeps : Bool) → (size fails failed : ℕ) → (before after : Option (List ℕ)) → (old new : SeatView) → Result ℕ Stop → Type 0
TurnWrote keeps size fails failed before after old new (Ok n) =
    (failed ≡ fails) × (written : List ℕ) × (length written ≡ n) × Appends before after written × BooksShown keeps old new (AreEmits size old.number written)
TurnWrote keeps size fails failed before after old new (Err stop) =
    (written : List ℕ) × (length written ≡ stop.moved) × Appends before after written × BooksShown keeps old new (WriteAdds size old.number (has_failed fails failed) written stop.why)

-- an emission into a buffer of this size gave so many bytes, which stand at its front; or nothing was due, and something is now,
-- or nothing will be
abbrev pub EmitsOrWakes : (keeps witnessed : Bool) → Role → Config → (size : ℕ) → (buffer : List ℕ) → (old new : SeatView) → ℕ → Type 0
EmitsOrWakes keeps witnessed role config size buffer old new count =
    EmitsOnce keeps size buffer old new (Ok (Emitted count)) ⊎ (IsShown old new × IsAwake witnessed role config new.seen)

-- ---- the read pump

-- feeds of the bytes that are left, the last of which told this fault, if there is one
abbrev pub FeedsTo : (seat : ℕ) → (left taken last : List ℕ) → Option Fault → List Entry → Type 0
FeedsTo seat left taken last fault added = AreFeeds seat left taken last added × TellsLast fault added

-- feeds of these bytes, which took the first n
abbrev pub FeedsFirst : (keeps : Bool) → (old new : SeatView) → List ℕ → ℕ → Option Fault → Type 0
FeedsFirst keeps old new bytes n fault = (n ≤ length bytes) × Books keeps old new (FeedsTo old.number bytes (take n bytes) (drop n bytes) fault)

-- feeds of these bytes took so many, and released streams were looked at; or so many up to the pump's end
abbrev pub TurnFed : (keeps : Bool) → (old new : SeatView) → List ℕ → Result (ℕ × Purged) Stop → Type 0
TurnFed keeps old new bytes (Ok done) = FeedsFirst keeps old new bytes done.0 None
TurnFed keeps old new bytes (Err stop) = IsInside stop.why × FeedsFirst keeps old new bytes stop.moved (fault_of_end stop.why)

-- feeds of these bytes took all, and released streams were looked at; or so many up to the pump's end
abbrev pub FedAll : (keeps : Bool) → (old new : SeatView) → List ℕ → Result Purged Stop → Type 0
FedAll keeps old new bytes (Ok purged) = Books keeps old new (FeedsTo old.number bytes bytes [] None)
FedAll keeps old new bytes (Err stop) = IsInside stop.why × FeedsFirst keeps old new bytes stop.moved (fault_of_end stop.why)

-- a turn that went well, or the last one
abbrev pub TurnRead : (keeps : Bool) → (fails failed : ℕ) → (before after : Option (List ℕ)) → (old new : SeatView) → Result (ℕ × Purged) Stop → Type 0
TurnRead keeps fails failed before after old new (Ok done) =
    (failed ≡ fails) × (given : List ℕ) × (length given ≡ done.0) × Consumes before after given × Books keeps old new (FeedsTo old.number given given [] None)
TurnRead keeps fails failed before after old new (Err stop) =
    (given : List ℕ) × (taken : List ℕ) × (last : List ℕ) × (given ≡ taken ++ last) × (length taken ≡ stop.moved) × IsLeft stop.why last
    × Consumes before after given × Books keeps old new (ReadAdds old.number given taken last stop.why)
