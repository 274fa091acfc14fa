-- The commands of an endpoint and their outcomes, the newest first, and what was logged on its way (this project's own).
use Rattle.std.specs.Prelude.{◌≡◌, ◌++◌, ℕ, List, [], ◌∷◌, Bool, true, false, Option, Some, None, option_map}
use Rattle.ymx_policy.specs.declared.plan.Terms.{Terms}
use Rattle.ymx_policy.specs.declared.commands.Notice.{Notice}
use Rattle.ymx_policy.specs.declared.commands.Fault.{Fault}
use Rattle.ymx_policy.specs.declared.commands.Action.{Action}
use Rattle.ymx_policy.specs.declared.commands.Action.TheVariants as action
use Rattle.ymx_policy.specs.declared.commands.Command.{Command}
use Rattle.ymx_policy.specs.declared.commands.Outcome.{Outcome}
use Rattle.ymx_policy.specs.declared.machine.State.{State}
use Rattle.ymx_policy.specs.Machine.{fresh, next_command, after}

-- it has ended
abbrev pub is_end : Action → Bool
is_end (action.End status) = true
is_end other = false

-- where what happened so far leads to
abbrev pub state_of : Terms → List (Command × Outcome) → State
state_of t [] = fresh t
state_of t (entry ∷ past) = after t (state_of t past) entry.1

-- the command that follows
abbrev pub command_after : Terms → List (Command × Outcome) → Command
command_after t past = next_command t (state_of t past)

-- Each command was its table's, and its outcome was taken, up to its end.
abbrev pub IsPast : Terms → List (Command × Outcome) → Type 0
IsPast t [] = Unit {0}
IsPast t (entry ∷ past) = (entry.0 ≡ command_after t past) × (is_end entry.0.action ≡ false) × IsPast t past

-- this in front of the others, where there is something
abbrev pub with : {A : Type 0} → Option A → List A → List A
with None others = others
with (Some x) others = x ∷ others

-- the faults that were logged, the newest first
abbrev pub faults : List (Command × Outcome) → List Fault
faults [] = []
faults (entry ∷ past) = with entry.0.words.fault (faults past)

-- the reasons that were logged with or without -v, the newest first
abbrev pub reasons : List (Command × Outcome) → List Notice
reasons [] = []
reasons (entry ∷ past) = with entry.0.words.reason (reasons past)

-- those are on the list besides, in front, where it is known
abbrev pub Adds : {A : Type 0} → List A → Option (List A) → Option (List A) → Type 0
Adds new old_list new_list = new_list ≡ option_map (λ list. new ++ list) old_list

-- An endpoint with these terms has come here: these were its commands and outcomes, and just these its world executed.
pub record HasCome (t : Terms) (here : State) (before now : Option (List (Command × Outcome))) : Type 0 where
  pub past : List (Command × Outcome)
  pub valid : IsPast t past
  pub state : here ≡ state_of t past
  pub logged : Adds past before now

-- An endpoint with these terms has ended with this status: by its tables alone, and its world executed just that.
pub record HasEnded (t : Terms) (status : ℕ) (before now : Option (List (Command × Outcome))) : Type 0 where
  pub past : List (Command × Outcome)
  pub last : Outcome
  pub valid : IsPast t past
  pub ends : (command_after t past).action ≡ action.End status
  pub logged : Adds ((command_after t past, last) ∷ past) before now
