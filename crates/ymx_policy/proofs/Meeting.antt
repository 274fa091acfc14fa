-- A session has a peer.
use Rattle.std.proofs.Common.{◌≡◌, List, Bool, true, false, arith}
use Rattle.ymx_policy.specs.declared.plan.Mode.{Mode}
use Rattle.ymx_policy.specs.declared.plan.Mode.TheVariants.{LocalDials}
use Rattle.ymx_policy.specs.declared.plan.Terms.{Terms}
use Rattle.ymx_policy.specs.declared.commands.Command.{Command}
use Rattle.ymx_policy.specs.declared.commands.Outcome.{Outcome}
use Rattle.ymx_policy.specs.declared.machine.Stage.{Stage}
use Rattle.ymx_policy.specs.declared.machine.Stage.TheVariants as stage
use Rattle.ymx_policy.specs.declared.machine.State.{State}
use Rattle.ymx_policy.specs.Machine.{fresh, next_command, after}
use Rattle.ymx_policy.specs.Past.{IsPast, state_of}
use Rattle.ymx_policy.specs.Laws.{has_peer, peer_after}
use Rattle.ymx_policy.proofs.Keeping.{holds_always}

-- where a session begins, or a `local` that has connected listens for users, the peer is there
abbrev pub is_met : Mode → (kept : Bool) → Stage → (there : Bool) → Bool
is_met mode kept stage.Serving there = there
is_met LocalDials false stage.OpeningUsers there = there
is_met mode kept at there = true

step : (t : Terms) (s : State) (h : Outcome) (there : Bool) → is_met t.mode t.session.reconnects s.stage there ≡ true → is_met t.mode t.session.reconnects (after t s h).stage (peer_after (next_command t s).action h there) ≡ true
step t s h there e = grind arith

first : (t : Terms) → is_met t.mode t.session.reconnects (fresh t).stage false ≡ true
first t = grind arith

pub met : (t : Terms) (past : List (Command × Outcome)) → IsPast t past → is_met t.mode t.session.reconnects (state_of t past).stage (has_peer past) ≡ true
met t = holds_always t (λ past s. is_met t.mode t.session.reconnects s.stage (has_peer past) ≡ true) (first t) (λ past s h goes e. step t s h (has_peer past) e)
