use Rattle.std.proofs.Common.{◌≡◌, ◌||◌, List, Bool, true, false, refl, arith}
use Rattle.ymx_policy.specs.declared.plan.Mode.{Mode}
use Rattle.ymx_policy.specs.declared.plan.Mode.TheVariants.{LocalDials, LocalAwaits}
use Rattle.ymx_policy.specs.declared.plan.Terms.{Terms}
use Rattle.ymx_policy.specs.declared.commands.Dial.{Dial}
use Rattle.ymx_policy.specs.declared.commands.Session.{Session}
use Rattle.ymx_policy.specs.declared.commands.Users.{Users}
use Rattle.ymx_policy.specs.declared.commands.Action.TheVariants as action
use Rattle.ymx_policy.specs.declared.commands.Command.{Command}
use Rattle.ymx_policy.specs.declared.commands.Outcome.{Outcome}
use Rattle.ymx_policy.specs.declared.machine.Stage.{Stage}
use Rattle.ymx_policy.specs.declared.machine.Stage.TheVariants as stage
use Rattle.ymx_policy.specs.declared.machine.State.{State}
use Rattle.ymx_policy.specs.Machine.{fresh, next_command, after}
use Rattle.ymx_policy.specs.Past.{IsPast, state_of}
use Rattle.ymx_policy.specs.Laws.{has_opened, has_peer, is_local, opens}
use Rattle.ymx_policy.proofs.Keeping.{holds_always}
use Rattle.ymx_policy.proofs.Meeting.{is_met, met}
use Rattle.ymx_policy.proofs.laws.own_port_first.Goals as goal

-- a `local` listens for users there, or is about to
abbrev is_ready : Mode → (kept : Bool) → Stage → (users : Bool) → Bool
is_ready LocalAwaits kept stage.OpeningPeers users = true
is_ready mode kept stage.OpeningPeers users = false
is_ready mode kept stage.OpeningUsers users = true
is_ready LocalDials false stage.Connecting users = true
is_ready mode kept stage.Over users = true
is_ready mode kept at users = users

step : (t : Terms) (s : State) (h : Outcome) (users : Bool) → is_local t.mode ≡ true → is_ready t.mode t.session.reconnects s.stage users ≡ true → is_ready t.mode t.session.reconnects (after t s h).stage (opens (next_command t s).action h || users) ≡ true
step t s h users l e = grind arith

first : (t : Terms) → is_local t.mode ≡ true → is_ready t.mode t.session.reconnects (fresh t).stage false ≡ true
first t l = grind arith

ready : (t : Terms) → is_local t.mode ≡ true → (past : List (Command × Outcome)) → IsPast t past → is_ready t.mode t.session.reconnects (state_of t past).stage (has_opened past) ≡ true
ready t l = holds_always t (λ past s. is_ready t.mode t.session.reconnects s.stage (has_opened past) ≡ true) (first t l) (λ past s h goes e. step t s h (has_opened past) l e)

at_connect : (t : Terms) (s : State) (dial : Dial) (users : Bool) → t.session.reconnects ≡ true → (next_command t s).action ≡ action.Connect dial → is_ready t.mode t.session.reconnects s.stage users ≡ true → users ≡ true
at_connect t s dial users k a r = grind arith

pub returns-clause-kept : goal.returns-clause-kept
returns-clause-kept c t past dial r k valid a = at_connect t (state_of t past) dial (has_opened past) k a (ready t (rw r refl) past valid)

at_wait : (t : Terms) (s : State) (users : Bool) → (next_command t s).action ≡ action.AwaitPeer → is_ready t.mode t.session.reconnects s.stage users ≡ true → users ≡ true
at_wait t s users a r = grind arith

pub returns-clause-bound : goal.returns-clause-bound
returns-clause-bound c t past r valid a = at_wait t (state_of t past) (has_opened past) a (ready t (rw r refl) past valid)

at_session : (t : Terms) (s : State) (session : Session) (users : Bool) → (next_command t s).action ≡ action.Serve session → is_ready t.mode t.session.reconnects s.stage users ≡ true → users ≡ true
at_session t s session users a r = grind arith

pub returns-clause-served : goal.returns-clause-served
returns-clause-served c t past session l valid a = at_session t (state_of t past) session (has_opened past) a (ready t l past valid)

at_users : (t : Terms) (s : State) (users : Users) (there : Bool) → t.mode ≡ LocalDials → t.session.reconnects ≡ false → (next_command t s).action ≡ action.ListenForUsers users → is_met t.mode t.session.reconnects s.stage there ≡ true → there ≡ true
at_users t s users there r k a e = grind arith

pub returns-clause-called : goal.returns-clause-called
returns-clause-called c t past users r k valid a = at_users t (state_of t past) users (has_peer past) r k a (met t past valid)
