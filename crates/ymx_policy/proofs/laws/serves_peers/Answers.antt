use Rattle.std.proofs.Common.{◌≡◌, Bool, true, arith}
use Rattle.ymx_policy.specs.declared.plan.Terms.{Terms}
use Rattle.ymx_policy.specs.declared.commands.Session.{Session}
use Rattle.ymx_policy.specs.declared.commands.Action.TheVariants as action
use Rattle.ymx_policy.specs.declared.machine.State.{State}
use Rattle.ymx_policy.specs.Machine.{next_command}
use Rattle.ymx_policy.specs.Past.{state_of}
use Rattle.ymx_policy.specs.Laws.{has_peer}
use Rattle.ymx_policy.proofs.Meeting.{is_met, met}
use Rattle.ymx_policy.proofs.laws.serves_peers.Goals as goal

at_serve : (t : Terms) (s : State) (session : Session) (there : Bool) → (next_command t s).action ≡ action.Serve session → is_met t.mode t.session.reconnects s.stage there ≡ true → there ≡ true
at_serve t s session there a e = grind arith

pub returns : goal.returns
returns c t past session valid a = at_serve t (state_of t past) session (has_peer past) a (met t past valid)
