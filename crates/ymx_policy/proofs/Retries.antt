-- how many connects may fail before users are rejected.
use Rattle.std.proofs.Common.{◌≡◌, ◌≢◌, ℕ, List, true, refl, arith}
use Rattle.ymx_policy.specs.declared.plan.Mode.TheVariants.{RemoteDials}
use Rattle.ymx_policy.specs.declared.plan.Terms.{Terms}
use Rattle.ymx_policy.specs.declared.commands.Command.{Command}
use Rattle.ymx_policy.specs.declared.commands.Outcome.{Outcome}
use Rattle.ymx_policy.specs.declared.machine.State.{State}
use Rattle.ymx_policy.specs.Machine.{after, next_command}
use Rattle.ymx_policy.specs.Past.{IsPast, state_of}
use Rattle.ymx_policy.specs.Laws.{retries_after, retries_allowed}
use Rattle.ymx_policy.proofs.Keeping.{holds_always}

step : (t : Terms) (s : State) (h : Outcome) (n : ℕ) → t.mode ≢ RemoteDials → t.session.reconnects ≡ true → s.retries_left ≡ n → (after t s h).retries_left ≡ retries_after (next_command t s).action h n
step t s h n r k e = grind arith

pub retries_left : (t : Terms) → t.mode ≢ RemoteDials → t.session.reconnects ≡ true → (past : List (Command × Outcome)) → IsPast t past → (state_of t past).retries_left ≡ retries_allowed past
retries_left t r k = holds_always t (λ past s. s.retries_left ≡ retries_allowed past) refl (λ past s h goes e. step t s h (retries_allowed past) r k e)
