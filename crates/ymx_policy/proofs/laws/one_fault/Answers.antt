use Rattle.std.proofs.Common.{◌≡◌, ◌≤◌, List, [], ◌∷◌, Bool, true, false, length, arith}
use Rattle.ymx_policy.specs.declared.plan.Terms.{Terms}
use Rattle.ymx_policy.specs.declared.commands.Fault.{Fault}
use Rattle.ymx_policy.specs.declared.commands.Outcome.{Outcome}
use Rattle.ymx_policy.specs.declared.machine.Stage.{Stage}
use Rattle.ymx_policy.specs.declared.machine.Stage.TheVariants as stage
use Rattle.ymx_policy.specs.declared.machine.State.{State}
use Rattle.ymx_policy.specs.Machine.{fresh, next_command, after}
use Rattle.ymx_policy.specs.Past.{is_end, state_of, with}
use Rattle.ymx_policy.proofs.Keeping.{holds_always, reported_now}
use Rattle.ymx_policy.proofs.laws.one_fault.Goals as goal

-- one was logged at the end at most, and none before
abbrev is_logged_once : Stage → List Fault → Bool
is_logged_once stage.Over [] = true
is_logged_once stage.Over (f ∷ []) = true
is_logged_once at [] = true
is_logged_once at fs = false

step : (t : Terms) (s : State) (h : Outcome) (fs : List Fault) → t.session.reconnects ≡ false → is_end (next_command t s).action ≡ false → is_logged_once s.stage fs ≡ true → is_logged_once (after t s h).stage (with (after t s h).words.fault fs) ≡ true
step t s h fs kept goes e = grind arith

first : (t : Terms) → is_logged_once (fresh t).stage [] ≡ true
first t = grind arith

few : (at : Stage) (fs : List Fault) → is_logged_once at fs ≡ true → length fs ≤ 1
few at fs e = grind arith

pub returns : goal.returns
returns c t past kept valid =
    few (state_of t past).stage (reported_now past (state_of t past)) (holds_always t (λ past s. is_logged_once s.stage (reported_now past s) ≡ true) (first t) (λ past s h goes e. step t s h (reported_now past s) kept goes e) past valid)
