-- What the phase of an end excludes.
use Rattle.std.proofs.Common.{◌≡◌, true, false, refl, arith}
use Rattle.ymx_machine.specs.shared.Phases.{Phase, takes, is_unborn, is_up, is_live, is_reset}
use Rattle.ymx_machine.specs.shared.Phases.Phase.{Unborn, Live}

pub takes-born : (p : Phase) → takes p ≡ true → p ≡ Unborn → ⊥
takes-born p t h = grind arith

pub takes-up : (p : Phase) → takes p ≡ true → is_up p ≡ true
takes-up p t = grind arith

pub down : (p : Phase) → takes p ≡ false → (p ≡ Unborn → ⊥) → is_up p ≡ false
down p t n = grind arith

pub live-born : (p : Phase) → p ≡ Live → p ≡ Unborn → ⊥
live-born p l h = grind arith

pub live-up : (p : Phase) → p ≡ Live → is_up p ≡ true
live-up p l = grind arith

pub live-takes : (p : Phase) → p ≡ Live → takes p ≡ true
live-takes p l = grind arith

pub down-born : (p : Phase) → is_up p ≡ false → p ≡ Unborn → ⊥
down-born p l h = grind arith

pub is-live : (p : Phase) → is_live p ≡ true → p ≡ Live
is-live p e = grind arith

pub reset-down : (p : Phase) → is_reset p ≡ true → is_up p ≡ false
reset-down p e = grind arith

pub live_not_reset : (p : Phase) → is_live p ≡ true → is_reset p ≡ false
live_not_reset p l = grind arith

pub born : (p : Phase) → (p ≡ Unborn → ⊥) → is_unborn p ≡ false
born Unborn n = absurd (n refl)
born _ n = refl

-- an end that is over uses nothing
pub down-takes : (p : Phase) → is_up p ≡ false → (is_unborn p ≡ false) × (takes p ≡ true → ⊥)
down-takes p d = (grind arith, λ t. absurd (grind arith))
