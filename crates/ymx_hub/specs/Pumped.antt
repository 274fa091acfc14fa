-- What a turn of a write pump does with its seat (this project's own).
use Rattle.std.specs.Prelude.{◌≡◌, ℕ, ◌⊎◌, List, [], take, Bool, true, false, Option, Result, Ok, Err}
use Rattle.ymx_memory.specs.declared.refused.RefusedAllocation.{RefusedAllocation}
use Rattle.ymx_model.specs.declared.types.Role.{Role}
use Rattle.ymx_model.specs.declared.types.Config.{Config}
use Rattle.ymx_model.specs.declared.types.Event.TheVariants as event
use Rattle.ymx_machine.specs.declared.types.Reply.TheVariants as reply
use Rattle.ymx_model.specs.declared.types.Entry.{Entry}
use Rattle.ymx_model.specs.session.Sessions.{Session, is_running}
use Rattle.ymx_model.specs.session.Emissions.{is_ready}
use Rattle.ymx_seats.specs.Views.{SeatView}
use Rattle.ymx_hub.specs.Books.{Books, One}
use Rattle.ymx_hub.specs.WholeHistories.{IsHistoryOf}
use Rattle.ymx_hub.specs.Shown.{IsShown}
use Rattle.ymx_hub.specs.declared.moving.Turn.{Turn}
use Rattle.ymx_hub.specs.declared.moving.Turn.TheVariants.{Emitted, Idle, Over}

-- how many bytes a turn emitted
abbrev pub emitted_count : Turn → ℕ
emitted_count (Emitted n) = n
emitted_count Idle = 0
emitted_count Over = 0

-- one emission into a buffer of this size, which gave the bytes at its front; or nothing was due, and the history was shown; or
-- there was no memory for the entry
abbrev pub EmitsOnce : (keeps : Bool) (size : ℕ) (buffer : List ℕ) (old new : SeatView) → Result Turn RefusedAllocation → Type 0
EmitsOnce keeps size buffer old new (Ok (Emitted n)) = Books keeps old new (One old.number (event.Emit size) (reply.Emitted (take n buffer)))
EmitsOnce keeps size buffer old new (Ok Idle) = IsShown old new
EmitsOnce keeps size buffer old new (Ok Over) = IsShown old new
EmitsOnce keeps size buffer old new (Err refused) = Books keeps old new (λ added. added ≡ [])

-- the history leads to a session of which nothing is due, and which goes on if this says so
abbrev pub IsUndue : (witnessed : Bool) → Role → Config → Option (List Entry) → (running : Bool) → Type 0
IsUndue witnessed role config seen running =
    (s : Session) × IsHistoryOf witnessed role config seen s × (is_ready s ≡ false) × (is_running s.status ≡ running)

-- nothing is due, and nothing will be: the history leads to a session that is closed, lost or broken
abbrev pub EmitsNoMore : (witnessed : Bool) → Role → Config → Option (List Entry) → Type 0
EmitsNoMore witnessed role config seen = IsUndue witnessed role config seen false

-- something is due, or nothing will be: the history leads to a session of which something is due, or which runs no more
abbrev pub IsAwake : (witnessed : Bool) → Role → Config → Option (List Entry) → Type 0
IsAwake witnessed role config seen =
    (s : Session) × IsHistoryOf witnessed role config seen s × ((is_ready s ≡ true) ⊎ (is_running s.status ≡ false))

-- what a turn that emits nothing says of the history
abbrev pub SeesTurn : (witnessed : Bool) → Role → Config → Option (List Entry) → Turn → Type 0
SeesTurn witnessed role config seen (Emitted n) = Unit {0}
SeesTurn witnessed role config seen Idle = IsUndue witnessed role config seen true
SeesTurn witnessed role config seen Over = EmitsNoMore witnessed role config seen
