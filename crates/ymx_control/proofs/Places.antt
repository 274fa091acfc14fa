-- What is taken out of a list stood at its first place.
use Rattle.std.proofs.Common.{◌≡◌, ◌≤◌, ℕ, ◌+◌, List, [], ◌∷◌, length, Bool, true, false, not, cond, ◌==◌, None, Some, remove, position, refl, ap, sym, ◌∙◌, arith}
use Rattle.std.specs.List.{position_or_len}
use Rattle.std.proofs.lemmas.Grind.{common_steps}
use Rattle.std.proofs.lemmas.Bool.Decides.{nat_tests}
use Rattle.ymx_machine.specs.shared.Lists.{drop_id}

-- taking out the first element, or one after it
pub cond-remove : {X : Type 0} (b : Bool) (x : X) (xs : List X) (n : ℕ) → cond b xs (x ∷ remove xs n) ≡ remove (x ∷ xs) (cond (not b) (1 + n) 0)
cond-remove true x xs n = grind (arith, common_steps)
cond-remove false x xs n = grind (arith, common_steps)

pub drop_id-remove : (id : ℕ) (xs : List ℕ) → drop_id id xs ≡ remove xs (position_or_len (λ x. x == id) xs)
drop_id-remove id [] = refl
drop_id-remove id (x ∷ xs) = rw (drop_id-remove id xs) (cond-remove (x == id) x xs _)

-- where `position` finds a place, it is that of the first
pub position-place : {X : Type 0} (p : X → Bool) (xs : List X) (i : ℕ) → position p xs ≡ Some i → position_or_len p xs ≡ i
position-place p xs i found = grind (arith, nat_tests)

-- where it finds none, nothing passes
pub position-none : {X : Type 0} (p : X → Bool) (xs : List X) → position p xs ≡ None → length xs ≤ position_or_len p xs
position-none p xs absent = grind (arith, nat_tests)

pub remove-past : {X : Type 0} (xs : List X) (i : ℕ) → length xs ≤ i → remove xs i ≡ xs
remove-past xs i past = grind (arith, common_steps)

-- ---- the backlog

pub drop_id_some : (id : ℕ) (xs : List ℕ) (i : ℕ) → position (λ x. x == id) xs ≡ Some i → remove xs i ≡ drop_id id xs
drop_id_some id xs i found = ap (remove xs) (sym (position-place _ xs i found)) ∙ sym (drop_id-remove id xs)

pub drop_id_none : (id : ℕ) (xs : List ℕ) → position (λ x. x == id) xs ≡ None → drop_id id xs ≡ xs
drop_id_none id xs absent = drop_id-remove id xs ∙ remove-past xs _ (position-none _ xs absent)
