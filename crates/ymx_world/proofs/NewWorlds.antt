-- A new world is one that can be.
use Rattle.std.proofs.Common.{◌≡◌, ℕ, ◌<◌, ◌≤◌, ◌^◌, ◌==◌, [], Bool, true, false, not, ◌||◌, nat_lt, cond, None, Some, refl, sym, ap, subst, ◌∙◌, arith}
use Rattle.std.proofs.lemmas.Bool.Decides.{nat_tests}
use Rattle.ymx_model.specs.declared.types.Config.{Config}
use Rattle.ymx_model.specs.declared.types.Role.{Role}
use Rattle.ymx_model.specs.declared.types.Role.TheVariants.{Client, Server}
use Rattle.ymx_machine.specs.shared.Limits.{first_credit}
use Rattle.ymx_model.specs.session.Sessions.{Session, new_session, is_own}
use Rattle.ymx_model.specs.world.Worlds.{World, new_world, new_pipe}
use Rattle.ymx_session.specs.declared.new_fault.NewFault.TheVariants.{BadWindow, BadFirst}
use Rattle.ymx_session.specs.NewSessions.{first_id, new_fault}
use Rattle.ymx_machine.specs.machine.Machines.{new_machine}
use Rattle.ymx_headline.specs.Agrees.{Agrees}
use Rattle.ymx_headline.specs.Laws.{AreGood}
use Rattle.ymx_headline.proofs.relation.Begins.{begins}
use Rattle.ymx_world.specs.Reached.{IsReached}

-- a window that may be chosen, and a first id of the side's own
record IsGood (role : Role) (config : Config) : Type 0 where
  low : first_credit ≤ config.window
  high : config.window ≤ 16777216
  own : is_own role (first_id role config.first) ≡ true

no_fault : (bad_window own : Bool) → cond bad_window (Some BadWindow) (cond (not own) (Some BadFirst) None) ≡ None → (bad_window ≡ false) × (own ≡ true)
no_fault true own h = cc
no_fault false true h = (refl, refl)
no_fault false false h = cc

good_config : (role : Role) (config : Config) → new_fault role config ≡ None → IsGood role config
good_config role config h =
    let t = no_fault (nat_lt config.window first_credit || nat_lt 16777216 config.window) (is_own role (first_id role config.first)) h in
    let w = t.0 in
    record { low = grind (arith, nat_tests); high = grind (arith, nat_tests); own = t.1 }

small_id : (zero : Bool) (least n : ℕ) → least < 2 ^ 32 → n < 2 ^ 32 → cond zero least n < 2 ^ 32
small_id true least n h k = h
small_id false least n h k = k

some_id : (zero : Bool) (least n : ℕ) → (n == 0) ≡ zero → 0 < least → 0 < cond zero least n
some_id true least n e h = h
some_id false least n e h = grind (arith, nat_tests)

pub good_world : (a b : Config) → new_fault Client a ≡ None → new_fault Server b ≡ None → a.first < 2 ^ 32 → b.first < 2 ^ 32 →
    AreGood a.window (first_id Client a.first) b.window (first_id Server b.first)
good_world a b fine_a fine_b small_a small_b =
    let g = good_config Client a fine_a in
    let h = good_config Server b fine_b in
    record { low_a = g.low; high_a = g.high; low_b = h.low; high_b = h.high; client = g.own; server = h.own; small_a = small_id (a.first == 0) 1 a.first (omega arith) small_a; some_b = some_id (b.first == 0) 2 b.first refl (omega arith); small_b = small_id (b.first == 0) 2 b.first (omega arith) small_b }

-- two new sessions with nothing on its way between them are a new world
made_new : (window_a first_a window_b first_b : ℕ) (a b : Session) (w : World) →
    a ≡ new_session Client window_a first_a → b ≡ new_session Server window_b first_b → w ≡ record { a = a; b = b; ab = new_pipe; ba = new_pipe } → new_world window_a first_a window_b first_b ≡ w
made_new window_a first_a window_b first_b a b w made_a made_b is =
    ap (λ (s : Session). record { a = s; b = new_session Server window_b first_b; ab = new_pipe; ba = new_pipe }) (sym made_a)
    ∙ ap (λ (s : Session). record { a = a; b = s; ab = new_pipe; ba = new_pipe }) (sym made_b) ∙ sym is

pub reached_new : (window_a first_a window_b first_b : ℕ) (a b : Session) (w : World) → AreGood window_a first_a window_b first_b →
    a ≡ new_session Client window_a first_a → b ≡ new_session Server window_b first_b → w ≡ record { a = a; b = b; ab = new_pipe; ba = new_pipe } → IsReached w
reached_new window_a first_a window_b first_b a b w good made_a made_b is =
    subst IsReached (made_new window_a first_a window_b first_b a b w made_a made_b is) (record { window_a = window_a; first_a = first_a; window_b = window_b; first_b = first_b; good = good; steps = []; answers = []; runs = refl })

-- the new machine agrees with it
pub agrees_new : (window_a first_a window_b first_b : ℕ) (a b : Session) (w : World) → AreGood window_a first_a window_b first_b →
    a ≡ new_session Client window_a first_a → b ≡ new_session Server window_b first_b → w ≡ record { a = a; b = b; ab = new_pipe; ba = new_pipe } → Agrees w (new_machine window_a first_a window_b first_b)
agrees_new window_a first_a window_b first_b a b w g made_a made_b is =
    subst (λ (z : World). Agrees z (new_machine window_a first_a window_b first_b)) (made_new window_a first_a window_b first_b a b w made_a made_b is)
    (begins window_a first_a window_b first_b g.low_a g.high_a g.low_b g.high_b g.client g.server g.small_a g.some_b g.small_b)
