use Rattle.std.proofs.Common.{◌≡◌, ◌≢◌, ℕ, true, arith}
use Rattle.ymx_policy.specs.declared.plan.Mode.TheVariants.{RemoteDials}
use Rattle.ymx_policy.specs.declared.plan.Terms.{Terms}
use Rattle.ymx_policy.specs.declared.commands.Dial.{Dial}
use Rattle.ymx_policy.specs.declared.commands.Action.TheVariants as action
use Rattle.ymx_policy.specs.declared.commands.Outcome.{Outcome}
use Rattle.ymx_policy.specs.declared.commands.Outcome.TheVariants.{PeerCame, AllCame}
use Rattle.ymx_policy.specs.declared.machine.State.{State}
use Rattle.ymx_policy.specs.Machine.{next_command, after}
use Rattle.ymx_policy.specs.Past.{state_of}
use Rattle.ymx_policy.specs.Laws.{retries_allowed}
use Rattle.ymx_policy.proofs.Retries.{retries_left}
use Rattle.ymx_policy.proofs.laws.each_fault_is_logged.Goals as goal

closes : (t : Terms) (s : State) (dial : Dial) (h : Outcome) (n : ℕ) → t.mode ≢ RemoteDials → t.session.reconnects ≡ true → (next_command t s).action ≡ action.Connect dial → h ≢ PeerCame → h ≢ AllCame → n ≡ 0 → s.retries_left ≡ n → (next_command t (after t s h)).action ≡ action.RejectUsers
closes t s dial h n r k a p l none e = grind arith

pub returns-clause-unreached : goal.returns-clause-unreached
returns-clause-unreached c t past dial h r k valid a p l none = closes t (state_of t past) dial h (retries_allowed past) r k a p l none (retries_left t r k past valid)
