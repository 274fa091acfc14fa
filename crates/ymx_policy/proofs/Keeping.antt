-- What holds of an endpoint at each moment.
use Rattle.std.proofs.Common.{◌≡◌, ℕ, List, [], ◌∷◌, false, refl, ap, sym, ◌∙◌, subst, arith}
use Rattle.ymx_policy.specs.declared.plan.Mode.{Mode}
use Rattle.ymx_policy.specs.declared.plan.Mode.TheVariants as mode
use Rattle.ymx_policy.specs.declared.plan.Terms.{Terms}
use Rattle.ymx_policy.specs.declared.commands.Fault.{Fault}
use Rattle.ymx_policy.specs.declared.commands.Action.TheVariants as action
use Rattle.ymx_policy.specs.declared.commands.Command.{Command}
use Rattle.ymx_policy.specs.declared.commands.Outcome.{Outcome}
use Rattle.ymx_policy.specs.declared.machine.Stage.{Stage}
use Rattle.ymx_policy.specs.declared.machine.Stage.TheVariants as stage
use Rattle.ymx_policy.specs.declared.machine.State.{State}
use Rattle.ymx_policy.specs.Machine.{fresh, next_command, after}
use Rattle.ymx_policy.specs.Past.{IsPast, command_after, faults, is_end, state_of, with}
use Rattle.ymx_policy.specs.Laws.{is_some_fault, status_of}

-- what holds at first and is kept by each step holds at each moment
pub holds_always : (t : Terms) (J : List (Command × Outcome) → State → Type 0) → J [] (fresh t)
    → ((past : List (Command × Outcome)) (s : State) (h : Outcome) → is_end (next_command t s).action ≡ false → J past s → J ((next_command t s, h) ∷ past) (after t s h))
    → (past : List (Command × Outcome)) → IsPast t past → J past (state_of t past)
holds_always t J first step [] valid = first
holds_always t J first step (entry ∷ past) valid =
    let P : Command → Type 0 = λ a. J ((a, entry.1) ∷ past) (after t (state_of t past) entry.1) in
    subst P (sym valid.0) (step past (state_of t past) entry.1 (ap (λ (a : Command). is_end a.action) (sym valid.0) ∙ valid.1) (holds_always t J first step past valid.2))

-- what holds at each stage holds at any
pub at_stage : (P : Stage → Type 0) → P stage.OpeningPeers → P stage.OpeningUsers → P stage.Connecting → P stage.AwaitingPeer → P stage.AdmittingPeers → P stage.AwaitingUser → P stage.Serving → P stage.RejectingUsers → P stage.Pausing → P stage.Over → (at : Stage) → P at
at_stage P a b c d e f g i j k stage.OpeningPeers = a
at_stage P a b c d e f g i j k stage.OpeningUsers = b
at_stage P a b c d e f g i j k stage.Connecting = c
at_stage P a b c d e f g i j k stage.AwaitingPeer = d
at_stage P a b c d e f g i j k stage.AdmittingPeers = e
at_stage P a b c d e f g i j k stage.AwaitingUser = f
at_stage P a b c d e f g i j k stage.Serving = g
at_stage P a b c d e f g i j k stage.RejectingUsers = i
at_stage P a b c d e f g i j k stage.Pausing = j
at_stage P a b c d e f g i j k stage.Over = k

-- what holds in each mode holds in any
pub at_mode : (P : Mode → Type 0) → P mode.LocalDials → P mode.LocalAwaits → P mode.RemoteDials → P mode.RemoteAwaits → P mode.RemoteAdmits → P mode.RemoteServes → (m : Mode) → P m
at_mode P a b c d e f mode.LocalDials = a
at_mode P a b c d e f mode.LocalAwaits = b
at_mode P a b c d e f mode.RemoteDials = c
at_mode P a b c d e f mode.RemoteAwaits = d
at_mode P a b c d e f mode.RemoteAdmits = e
at_mode P a b c d e f mode.RemoteServes = f

-- the faults with the one that is logged now
abbrev pub reported_now : List (Command × Outcome) → State → List Fault
reported_now past s = with s.words.fault (faults past)

faulted_step : (t : Terms) (s : State) (h : Outcome) (fs : List Fault) → is_end (next_command t s).action ≡ false → s.has_faulted ≡ is_some_fault fs → (after t s h).has_faulted ≡ is_some_fault (with (after t s h).words.fault fs)
faulted_step t s h fs goes e =
    let serving : s.stage ≡ stage.Serving → (after t s h).has_faulted ≡ is_some_fault (with (after t s h).words.fault fs) = λ q. at_mode (λ m. t.mode ≡ m → (after t s h).has_faulted ≡ is_some_fault (with (after t s h).words.fault fs)) (λ r. grind arith) (λ r. grind arith) (λ r. grind arith) (λ r. grind arith) (λ r. grind arith) (λ r. grind arith) t.mode refl in
    at_stage (λ at. s.stage ≡ at → (after t s h).has_faulted ≡ is_some_fault (with (after t s h).words.fault fs)) (λ q. grind arith) (λ q. grind arith) (λ q. grind arith) (λ q. grind arith) (λ q. grind arith) (λ q. grind arith) serving (λ q. grind arith) (λ q. grind arith) (λ q. grind arith) s.stage refl

-- an endpoint has logged a fault exactly if one is among those that were logged
pub has_faulted : (t : Terms) (past : List (Command × Outcome)) → IsPast t past → (state_of t past).has_faulted ≡ is_some_fault (reported_now past (state_of t past))
has_faulted t = holds_always t (λ past s. s.has_faulted ≡ is_some_fault (reported_now past s)) refl (λ past s h goes e. faulted_step t s h (reported_now past s) goes e)

end_status : (t : Terms) (s : State) (n : ℕ) (fs : List Fault) → s.has_faulted ≡ is_some_fault fs → (next_command t s).action ≡ action.End n → n ≡ status_of fs
end_status t s n fs e a = grind arith

pub reported : (t : Terms) (past : List (Command × Outcome)) (n : ℕ) → IsPast t past → (command_after t past).action ≡ action.End n → n ≡ status_of (with (command_after t past).words.fault (faults past))
reported t past n valid a = end_status t (state_of t past) n (reported_now past (state_of t past)) (has_faulted t past valid) a
