use Rattle.std.proofs.Common.{◌≡◌, List, ◌∷◌, true, false, refl, subst, arith}
use Rattle.std.specs.declared.net.socket_addr.SocketAddrV4.{SocketAddrV4}
use Rattle.ymx_policy.specs.declared.plan.Terms.{Terms}
use Rattle.ymx_policy.specs.declared.commands.Command.{Command}
use Rattle.ymx_policy.specs.declared.commands.Outcome.{Outcome}
use Rattle.ymx_policy.specs.declared.machine.Stage.TheVariants as stage
use Rattle.ymx_policy.specs.declared.machine.State.{State}
use Rattle.ymx_policy.specs.Machine.{next_command, after}
use Rattle.ymx_policy.specs.Past.{IsPast, command_after, is_end, state_of}
use Rattle.ymx_policy.specs.Laws.{NamesAddress, is_explained, listened, peers_of}
use Rattle.ymx_policy.proofs.Keeping.{at_mode, at_stage, holds_always}
use Rattle.ymx_policy.proofs.laws.faults_have_reasons.Goals as goal

reason_step : (t : Terms) (s : State) (h : Outcome) (past : List (Command × Outcome)) → is_end (next_command t s).action ≡ false → is_explained (after t s h).words.fault ((next_command t s, h) ∷ past) ≡ true
reason_step t s h past goes =
    let serving : s.stage ≡ stage.Serving → is_explained (after t s h).words.fault ((next_command t s, h) ∷ past) ≡ true = λ q. at_mode (λ m. t.mode ≡ m → is_explained (after t s h).words.fault ((next_command t s, h) ∷ past) ≡ true) (λ r. grind arith) (λ r. grind arith) (λ r. grind arith) (λ r. grind arith) (λ r. grind arith) (λ r. grind arith) t.mode refl in
    at_stage (λ at. s.stage ≡ at → is_explained (after t s h).words.fault ((next_command t s, h) ∷ past) ≡ true) (λ q. grind arith) (λ q. grind arith) (λ q. grind arith) (λ q. grind arith) (λ q. grind arith) (λ q. grind arith) serving (λ q. grind arith) (λ q. grind arith) (λ q. grind arith) s.stage refl

pub returns-clause-reason : goal.returns-clause-reason
returns-clause-reason c t past valid = holds_always t (λ past s. is_explained s.words.fault past ≡ true) refl (λ past s h goes e. reason_step t s h past goes) past valid

-- it knows where it listens, and names an address
record IsPlaced (t : Terms) (s : State) (peers : SocketAddrV4) : Type 0 where
  knows : s.peers ≡ peers
  names : NamesAddress t.peer s.peers t.users.address s.words.fault

knows_step : (t : Terms) (s : State) (h : Outcome) (peers : SocketAddrV4) → s.peers ≡ peers → (after t s h).peers ≡ listened (next_command t s).action h peers
knows_step t s h peers e = grind arith

names_step : (t : Terms) (s : State) (h : Outcome) → is_end (next_command t s).action ≡ false → NamesAddress t.peer (after t s h).peers t.users.address (after t s h).words.fault
names_step t s h goes = grind arith

placed : (t : Terms) (past : List (Command × Outcome)) → IsPast t past → IsPlaced t (state_of t past) (peers_of t past)
placed t = holds_always t (λ past s. IsPlaced t s (peers_of t past)) (record { knows = refl; names = tt })
    (λ past s h goes e. record { knows = knows_step t s h (peers_of t past) e.knows; names = names_step t s h goes })

pub returns-clause-place : goal.returns-clause-place
returns-clause-place c t past valid =
    let P : SocketAddrV4 → Type 0 = λ peers. NamesAddress t.peer peers t.users.address (command_after t past).words.fault in
    subst P (placed t past valid).knows (placed t past valid).names
