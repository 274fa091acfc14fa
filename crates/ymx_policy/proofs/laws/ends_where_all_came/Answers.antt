use Rattle.std.proofs.Common.{◌≡◌, List, Bool, true, false, refl, arith}
use Rattle.ymx_policy.specs.declared.plan.Terms.{Terms}
use Rattle.ymx_policy.specs.declared.commands.Fault.{Fault}
use Rattle.ymx_policy.specs.declared.commands.Action.{Action}
use Rattle.ymx_policy.specs.declared.commands.Action.TheVariants as action
use Rattle.ymx_policy.specs.declared.commands.Outcome.TheVariants.{AllCame}
use Rattle.ymx_policy.specs.declared.machine.State.{State}
use Rattle.ymx_policy.specs.Machine.{next_command, after, silence}
use Rattle.ymx_policy.specs.Past.{state_of}
use Rattle.ymx_policy.specs.Laws.{is_some_fault, status_of}
use Rattle.ymx_policy.proofs.Keeping.{has_faulted, reported_now}
use Rattle.ymx_policy.proofs.laws.ends_where_all_came.Goals as goal

-- peers or users are to come
abbrev opens : Action → Bool
opens (action.Connect dial) = true
opens (action.ListenForPeer peers) = true
opens (action.ListenForUsers users) = true
opens action.AwaitPeer = true
opens action.AdmitPeers = true
opens other = false

ends : (t : Terms) (s : State) (fs : List Fault) → opens (next_command t s).action ≡ true → s.has_faulted ≡ is_some_fault fs → next_command t (after t s AllCame) ≡ record { words = silence; action = action.End (status_of fs) }
ends t s fs o e = grind arith

pub returns-clause-called : goal.returns-clause-called
returns-clause-called c t past dial valid a = ends t (state_of t past) (reported_now past (state_of t past)) (rw a refl) (has_faulted t past valid)

pub returns-clause-awaited : goal.returns-clause-awaited
returns-clause-awaited c t past valid a = ends t (state_of t past) (reported_now past (state_of t past)) (rw a refl) (has_faulted t past valid)

pub returns-clause-peers : goal.returns-clause-peers
returns-clause-peers c t past peers valid a = ends t (state_of t past) (reported_now past (state_of t past)) (rw a refl) (has_faulted t past valid)

pub returns-clause-users : goal.returns-clause-users
returns-clause-users c t past users valid a = ends t (state_of t past) (reported_now past (state_of t past)) (rw a refl) (has_faulted t past valid)

pub returns-clause-admits : goal.returns-clause-admits
returns-clause-admits c t past valid a = ends t (state_of t past) (reported_now past (state_of t past)) (rw a refl) (has_faulted t past valid)
