use Rattle.std.proofs.Common.{◌≡◌, List, [], ◌∷◌, false, None, refl, sym, subst, arith}
use Rattle.ymx_policy.specs.declared.plan.Terms.{Terms}
use Rattle.ymx_policy.specs.declared.commands.Fault.{Fault}
use Rattle.ymx_policy.specs.declared.commands.Notice.{Notice}
use Rattle.ymx_policy.specs.declared.commands.Words.{Words}
use Rattle.ymx_policy.specs.declared.commands.Command.{Command}
use Rattle.ymx_policy.specs.declared.commands.Outcome.{Outcome}
use Rattle.ymx_policy.specs.declared.machine.State.{State}
use Rattle.ymx_policy.specs.Machine.{next_command, after}
use Rattle.ymx_policy.specs.Past.{IsPast, command_after, faults, is_end, reasons, with}
use Rattle.ymx_policy.specs.Laws.{status_of}
use Rattle.ymx_policy.proofs.Keeping.{holds_always, reported}
use Rattle.ymx_policy.proofs.laws.reasons_are_logged.Goals as goal

step : (t : Terms) (s : State) (h : Outcome) → is_end (next_command t s).action ≡ false → (after t s h).words.fault ≡ None → (after t s h).words.reason ≡ None
step t s h goes e = grind arith

mute : (t : Terms) (past : List (Command × Outcome)) → IsPast t past → (command_after t past).words.fault ≡ None → (command_after t past).words.reason ≡ None
mute t = holds_always t (λ past s. s.words.fault ≡ None → s.words.reason ≡ None) (λ e. refl) (λ past s h goes m. step t s h goes)

pub returns-clause-alone : goal.returns-clause-alone
returns-clause-alone c = mute

-- where no fault is logged with these words, and none was before, no reason is
untold : (w : Words) (fs : List Fault) (ns : List Notice) → with w.fault fs ≡ [] → (w.fault ≡ None → w.reason ≡ None) → (fs ≡ [] → ns ≡ []) → with w.reason ns ≡ []
untold w fs ns e m n = grind arith

quiet : (t : Terms) (past : List (Command × Outcome)) → IsPast t past → faults past ≡ [] → reasons past ≡ []
quiet t [] valid e = refl
quiet t (entry ∷ past) valid e =
    untold entry.0.words (faults past) (reasons past) e (subst (λ (a : Command). a.words.fault ≡ None → a.words.reason ≡ None) (sym valid.0) (mute t past valid.2)) (quiet t past valid.2)

none_said : (fs : List Fault) → 0 ≡ status_of fs → fs ≡ []
none_said [] e = refl
none_said (f ∷ fs) e = cc

pub returns-clause-none : goal.returns-clause-none
returns-clause-none c t past valid a =
    untold (command_after t past).words (faults past) (reasons past) (none_said (with (command_after t past).words.fault (faults past)) (reported t past 0 valid a)) (mute t past valid) (quiet t past valid)
