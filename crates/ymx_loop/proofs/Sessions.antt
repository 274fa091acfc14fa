-- A session that could be made keeps its limits.
use Rattle.std.proofs.Common.{◌≡◌, ℕ, ◌≤◌, Bool, true, false, ◌||◌, nat_lt, cond, Option, None, Some, refl, sym, subst, arith}
use Rattle.std.proofs.lemmas.Bool.Decides.{nat_tests}
use Rattle.ymx_machine.specs.shared.Limits.{first_credit, widest_window}
use Rattle.ymx_model.specs.declared.types.Role.{Role}
use Rattle.ymx_model.specs.declared.types.Role.TheVariants.{Client, Server}
use Rattle.ymx_model.specs.session.Sessions.{Session, new_session}
use Rattle.ymx_session.specs.NewSessions.{new_fault, first_id}
use Rattle.ymx_session.specs.declared.new_fault.NewFault.{NewFault}
use Rattle.ymx_session.specs.declared.new_fault.NewFault.TheVariants.{BadWindow}
use Rattle.ymx_law_session.specs.Limits.{IsWithin}
use Rattle.ymx_law_session.proofs.limits.HistoriesKeep.{new-keeps}

good_window : (bad : Bool) (other : Option NewFault) → cond bad (Some BadWindow) other ≡ None → bad ≡ false
good_window true other h = cc
good_window false other h = refl

low : (window : ℕ) → (nat_lt window first_credit || nat_lt 16777216 window) ≡ false → first_credit ≤ window
low window w = grind (arith, nat_tests)

high : (window : ℕ) → (nat_lt window first_credit || nat_lt 16777216 window) ≡ false → window ≤ widest_window
high window w = grind (arith, nat_tests)

-- the first id of a side that names none
pub within : (role : Role) (window : ℕ) (s : Session) → new_fault role (record { window = window; first = 0 }) ≡ None → s ≡ new_session role window (first_id role 0) → IsWithin s
within Client window s h e =
    let w = good_window (nat_lt window first_credit || nat_lt 16777216 window) None h in
    subst IsWithin (sym e) (new-keeps Client window 1 (low window w) (high window w) refl (omega arith) (omega arith))
within Server window s h e =
    let w = good_window (nat_lt window first_credit || nat_lt 16777216 window) None h in
    subst IsWithin (sym e) (new-keeps Server window 2 (low window w) (high window w) refl (omega arith) (omega arith))
