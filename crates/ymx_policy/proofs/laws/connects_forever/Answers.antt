use Rattle.std.proofs.Common.{◌≡◌, ◌≢◌, ℕ, Bool, true, false, arith}
use Rattle.ymx_policy.specs.declared.plan.Mode.TheVariants.{RemoteDials}
use Rattle.ymx_policy.specs.declared.plan.Terms.{Terms}
use Rattle.ymx_policy.specs.declared.commands.Action.TheVariants as action
use Rattle.ymx_policy.specs.declared.commands.Outcome.{Outcome}
use Rattle.ymx_policy.specs.declared.machine.Stage.{Stage}
use Rattle.ymx_policy.specs.declared.machine.Stage.TheVariants as stage
use Rattle.ymx_policy.specs.declared.machine.State.{State}
use Rattle.ymx_policy.specs.Machine.{fresh, next_command, after}
use Rattle.ymx_policy.specs.Past.{is_end, state_of}
use Rattle.ymx_policy.specs.Laws.{all_came_last, is_all_came}
use Rattle.ymx_policy.proofs.Keeping.{holds_always}
use Rattle.ymx_policy.proofs.laws.connects_forever.Goals as goal

-- it connects, serves or pauses, or has ended where all had come
abbrev proceeds : Stage → (all_came : Bool) → Bool
proceeds stage.Connecting all = true
proceeds stage.Serving all = true
proceeds stage.Pausing all = true
proceeds stage.Over all = all
proceeds at all = false

step : (t : Terms) (s : State) (h : Outcome) (all : Bool) → t.mode ≡ RemoteDials → t.session.reconnects ≡ true → is_end (next_command t s).action ≡ false → proceeds s.stage all ≡ true → proceeds (after t s h).stage (is_all_came h) ≡ true
step t s h all r k goes e = grind arith

first : (t : Terms) → t.mode ≡ RemoteDials → proceeds (fresh t).stage false ≡ true
first t r = grind arith

no_end : (t : Terms) (s : State) (n : ℕ) (all : Bool) → all ≡ false → proceeds s.stage all ≡ true → (next_command t s).action ≢ action.End n
no_end t s n all none e = grind arith

pub returns : goal.returns
returns c t past n r k none valid = no_end t (state_of t past) n (all_came_last past) none (holds_always t (λ past s. proceeds s.stage (all_came_last past) ≡ true) (first t r) (λ past s h goes e. step t s h (all_came_last past) r k goes e) past valid)
