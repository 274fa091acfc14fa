use Rattle.std.proofs.Common.{◌≡◌, Bool, true, false, Option, refl, arith}
use Rattle.std.specs.declared.net.socket_addr.SocketAddrV4.{SocketAddrV4}
use Rattle.ymx_policy.specs.declared.plan.Mode.TheVariants.{LocalDials}
use Rattle.ymx_policy.specs.declared.plan.Terms.{Terms}
use Rattle.ymx_policy.specs.declared.commands.Outcome.{Outcome}
use Rattle.ymx_policy.specs.declared.machine.Stage.TheVariants as stage
use Rattle.ymx_policy.specs.declared.machine.State.{State}
use Rattle.ymx_policy.specs.Machine.{fresh, next_command, after}
use Rattle.ymx_policy.specs.Past.{is_end}
use Rattle.ymx_policy.specs.Laws.{GoneFrom, is_logged_there, last_peer, last_peer_after, logs_arrival, logs_departure, logged_by}
use Rattle.ymx_policy.proofs.Keeping.{at_mode, at_stage, holds_always}
use Rattle.ymx_policy.proofs.laws.lines.Goals as goal

gone_step : (t : Terms) (s : State) (h : Outcome) (there : Bool) → is_end (next_command t s).action ≡ false → there ≡ false → logged_by (after t s h).words (logs_arrival (next_command t s).action h there) ≡ false
gone_step t s h there goes e =
    let serving : s.stage ≡ stage.Serving → logged_by (after t s h).words (logs_arrival (next_command t s).action h there) ≡ false = λ q. at_mode (λ m. t.mode ≡ m → logged_by (after t s h).words (logs_arrival (next_command t s).action h there) ≡ false) (λ r. grind arith) (λ r. grind arith) (λ r. grind arith) (λ r. grind arith) (λ r. grind arith) (λ r. grind arith) t.mode refl in
    at_stage (λ at. s.stage ≡ at → logged_by (after t s h).words (logs_arrival (next_command t s).action h there) ≡ false) (λ q. grind arith) (λ q. grind arith) (λ q. grind arith) (λ q. grind arith) (λ q. grind arith) (λ q. grind arith) serving (λ q. grind arith) (λ q. grind arith) (λ q. grind arith) s.stage refl

pub returns-clause-gone : goal.returns-clause-gone
returns-clause-gone c t past valid = holds_always t (λ past s. logged_by s.words (is_logged_there past) ≡ false) refl (λ past s h goes e. gone_step t s h (logged_by s.words (is_logged_there past)) goes e) past valid

known_step : (t : Terms) (s : State) (h : Outcome) (there : Bool) → t.mode ≡ LocalDials → is_end (next_command t s).action ≡ false → logs_departure (after t s h).words ≡ true → logs_arrival (next_command t s).action h there ≡ true
known_step t s h there r goes e = grind arith

known_first : (t : Terms) → logs_departure (fresh t).words ≡ true → false ≡ true
known_first t e = grind arith

pub returns-clause-known : goal.returns-clause-known
returns-clause-known c t past r valid = holds_always t (λ past s. logs_departure s.words ≡ true → is_logged_there past ≡ true) (known_first t) (λ past s h goes e. known_step t s h (logged_by s.words (is_logged_there past)) r goes) past valid

from_step : (t : Terms) (s : State) (h : Outcome) (peer : Option SocketAddrV4) → is_end (next_command t s).action ≡ false → GoneFrom (last_peer_after (next_command t s).action h peer) (after t s h).words.first × GoneFrom (last_peer_after (next_command t s).action h peer) (after t s h).words.last
from_step t s h peer goes =
    let serving : s.stage ≡ stage.Serving → GoneFrom (last_peer_after (next_command t s).action h peer) (after t s h).words.first × GoneFrom (last_peer_after (next_command t s).action h peer) (after t s h).words.last = λ q. at_mode (λ m. t.mode ≡ m → GoneFrom (last_peer_after (next_command t s).action h peer) (after t s h).words.first × GoneFrom (last_peer_after (next_command t s).action h peer) (after t s h).words.last) (λ r. grind arith) (λ r. grind arith) (λ r. grind arith) (λ r. grind arith) (λ r. grind arith) (λ r. grind arith) t.mode refl in
    at_stage (λ at. s.stage ≡ at → GoneFrom (last_peer_after (next_command t s).action h peer) (after t s h).words.first × GoneFrom (last_peer_after (next_command t s).action h peer) (after t s h).words.last) (λ q. grind arith) (λ q. grind arith) (λ q. grind arith) (λ q. grind arith) (λ q. grind arith) (λ q. grind arith) serving (λ q. grind arith) (λ q. grind arith) (λ q. grind arith) s.stage refl

pub returns-clause-from : goal.returns-clause-from
returns-clause-from c t past valid = holds_always t (λ past s. GoneFrom (last_peer past) s.words.first × GoneFrom (last_peer past) s.words.last) (tt, tt) (λ past s h goes e. from_step t s h (last_peer past) goes) past valid
