-- Facts about an `if`, and about tests of numbers and of Bools.
use Rattle.std.proofs.Common.{◌≡◌, ◌≢◌, ◌⊎◌, ℕ, ◌<◌, ◌≤◌, Bool, true, false, not, ◌&&◌, ◌||◌, ◌==◌, nat_lt, nat_le, if◌then◌else◌, Some, refl, sym, arith}
use Rattle.std.proofs.lemmas.Bool.Decides.{nat_tests}

-- what holds of both branches holds of the `if`
pub split : {A : Type 0} (P : A → Type 0) (b : Bool) (x y : A) → (b ≡ true → P x) → (b ≡ false → P y) → P (if b then x else y)
split P true x y f g = f refl
split P false x y f g = g refl

pub differs : (a b : ℕ) → (a == b) ≡ false → a ≢ b
differs a b e = grind (arith, nat_tests)

pub agrees : (a b : ℕ) → (a == b) ≡ true → a ≡ b
agrees a b e = grind (arith, nat_tests)

pub same_or_not : (j id : ℕ) → (j ≡ id) ⊎ (j ≢ id)
same_or_not j id = grind arith

pub not_le : (a b : ℕ) → nat_le a b ≡ false → b < a
not_le a b e = grind (arith, nat_tests)

pub is_le : (a b : ℕ) → nat_le a b ≡ true → a ≤ b
is_le a b e = grind (arith, nat_tests)

pub not_lt : (a b : ℕ) → nat_lt a b ≡ false → b ≤ a
not_lt a b e = grind (arith, nat_tests)

pub is_lt : (a b : ℕ) → nat_lt a b ≡ true → a < b
is_lt a b e = grind (arith, nat_tests)

-- a disjunction that fails
pub none_of : (a b : Bool) → (a || b) ≡ false → (a ≡ false) × (b ≡ false)
none_of false false e = (refl, refl)
none_of false true e = (refl, e)
none_of true b e = (e, absurd cc)

pub both_of : (a b : Bool) → (a && b) ≡ true → (a ≡ true) × (b ≡ true)
both_of true true e = (refl, refl)
both_of true false e = (refl, e)
both_of false b e = (e, absurd cc)

pub when : (b : Bool) → (b ≡ true) ⊎ (b ≡ false)
when b = grind arith

pub or_true : (b : Bool) → (b || true) ≡ true
or_true true = refl
or_true false = refl

pub negated : (b : Bool) → not b ≡ true → b ≡ false
negated true e = sym e
negated false e = refl

-- two that are there and the same are one
pub one_some : {X : Type 0} (x y : X) → Some x ≡ Some y → x ≡ y
one_some x y e = cc

pub is-self : (i : ℕ) → (i == i) ≡ true
is-self i = grind (arith, nat_tests)

pub is-other : (i j : ℕ) → i ≢ j → (j == i) ≡ false
is-other i j n = grind (arith, nat_tests)
