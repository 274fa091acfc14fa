-- Which sessions can be made (flow control, stream identifiers; the limits are this project's own).
use Rattle.std.specs.Prelude.{◌≡◌, ℕ, not, ◌||◌, ◌==◌, nat_lt, if◌then◌else◌, Option, None, Some, MatchOption}
use Rattle.ymx_model.specs.declared.types.Role.{Role}
use Rattle.ymx_model.specs.declared.types.Role.TheVariants.{Client, Server}
use Rattle.ymx_model.specs.declared.types.Config.{Config}
use Rattle.ymx_machine.specs.shared.Evidence.{evidence}
use Rattle.ymx_machine.specs.shared.Limits.{first_credit}
use Rattle.ymx_model.specs.session.Sessions.{is_own}
use Rattle.ymx_session.specs.declared.new_fault.NewFault.{NewFault}
use Rattle.ymx_session.specs.declared.new_fault.NewFault.TheVariants.{BadWindow, BadFirst, OutOfMemory}

-- the least own id
abbrev pub least_id : Role → ℕ
least_id Client = 1
least_id Server = 2

-- the first own id: 0 stands for the least
abbrev pub first_id : Role → ℕ → ℕ
first_id role first = if first == 0 then least_id role else first

-- Why a session cannot be made, even if there is memory: its window is below 262,144 bytes or above
-- 16,777,216, or its first id is one that the peer opens.
abbrev pub new_fault : Role → Config → Option NewFault
new_fault role config =
    if nat_lt config.window first_credit || nat_lt 16777216 config.window then Some BadWindow
    else if not (is_own role (first_id role config.first)) then Some BadFirst
    else None

-- this fault is that one, or else lack of memory
abbrev pub IsNewFault : Role → Config → NewFault → Type 0
IsNewFault role config fault = MatchOption (new_fault role config) (fault ≡ OutOfMemory evidence) (λ (why : NewFault). fault ≡ why)
