-- What a change, a removal and an addition leave of the other records.
use Rattle.std.proofs.Common.{◌≡◌, ◌≢◌, ℕ, ◌+◌, List, [], ◌∷◌, ◌++◌, length, Bool, true, false, eqb, None, Some, refl, arith, nat_eq}
use Rattle.std.specs.Prelude.{IsSome}
use Rattle.std.specs.List.{IsDistinct, AllByRecursion}
use Rattle.std.specs.Option.{option_map}
use Rattle.std.specs.Map.{keys_of}
use Rattle.std.proofs.lemmas.Bool.Decides.{nat_tests}
use Rattle.ymx_machine.specs.shared.Lists.{look, change, without, place}

module _ {X : Type 0} (id : ℕ) where
  -- the changed record is the function of what it was
  pub look-change_same : (f : X → X) (ps : List (ℕ × X)) → look id (change id f ps) ≡ option_map f (look id ps)
  look-change_same f [] = refl
  look-change_same f (p ∷ ps) = let h = look-change_same f ps in grind (arith, nat_tests)

  -- each other record is as it was
  pub look-change_other : (j : ℕ) (f : X → X) (ps : List (ℕ × X)) → j ≢ id → look j (change id f ps) ≡ look j ps
  look-change_other j f [] n = refl
  look-change_other j f (p ∷ ps) n = let h = look-change_other j f ps n in grind (arith, nat_tests)

  -- and the ids are the same, in the same order
  pub keys-change : (f : X → X) (ps : List (ℕ × X)) → keys_of (change id f ps) ≡ keys_of ps
  keys-change f [] = refl
  keys-change f (p ∷ ps) = let h = keys-change f ps in grind (arith, nat_tests)

  pub length-change : (f : X → X) (ps : List (ℕ × X)) → length (change id f ps) ≡ length ps
  length-change f [] = refl
  length-change f (p ∷ ps) = let h = length-change f ps in grind (arith, nat_tests)

  pub place-change : (j : ℕ) (f : X → X) (ps : List (ℕ × X)) → place j (change id f ps) ≡ place j ps
  place-change j f [] = refl
  place-change j f (p ∷ ps) = let h = place-change j f ps in grind (arith, nat_tests)

  -- a change to what it was is none
  pub change-nothing : (ps : List (ℕ × X)) → change id (λ x. x) ps ≡ ps
  change-nothing [] = refl
  change-nothing (p ∷ ps) = let h = change-nothing ps in grind (arith, nat_tests)

  -- where there is none, none changes
  pub change-none : (f : X → X) (ps : List (ℕ × X)) → look id ps ≡ None → change id f ps ≡ ps
  change-none f [] h = refl
  change-none f (p ∷ ps) h = let i = change-none f ps in grind (arith, nat_tests)

  -- a record that is known may be changed to what the function makes of it
  pub change-known : (f : X → X) (x : X) (ps : List (ℕ × X)) → look id ps ≡ Some x → change id (λ _. f x) ps ≡ change id f ps
  change-known f x [] h = refl
  change-known f x (p ∷ ps) h = let i = change-known f x ps in grind (arith, nat_tests)

  -- a removal leaves each other record
  pub look-without_other : (j : ℕ) (ps : List (ℕ × X)) → j ≢ id → look j (without id ps) ≡ look j ps
  look-without_other j [] n = refl
  look-without_other j (p ∷ ps) n = let h = look-without_other j ps n in grind (arith, nat_tests)

  -- and one fewer
  pub length-without : (ps : List (ℕ × X)) → IsSome (look id ps) → length (without id ps) + 1 ≡ length ps
  length-without [] h = grind arith
  length-without (p ∷ ps) h = let i = length-without ps in grind (arith, nat_tests)

  -- an added record is found where none was
  pub look-added_same : (x : X) (ps : List (ℕ × X)) → look id ps ≡ None → look id (ps ++ (id, x) ∷ []) ≡ Some x
  look-added_same x [] h = grind (arith, nat_tests)
  look-added_same x (p ∷ ps) h = let i = look-added_same x ps in grind (arith, nat_tests)

  pub look-added_other : (j : ℕ) (x : X) (ps : List (ℕ × X)) → j ≢ id → look j (ps ++ (id, x) ∷ []) ≡ look j ps
  look-added_other j x [] n = grind (arith, nat_tests)
  look-added_other j x (p ∷ ps) n = let h = look-added_other j x ps n in grind (arith, nat_tests)

  -- without the one record nothing has changed
  pub without-change : (f : X → X) (ps : List (ℕ × X)) → without id (change id f ps) ≡ without id ps
  without-change f [] = refl
  without-change f (p ∷ ps) = let h = without-change f ps in grind (arith, nat_tests)

  -- where there is none, none goes
  pub without-none : (ps : List (ℕ × X)) → look id ps ≡ None → without id ps ≡ ps
  without-none [] h = refl
  without-none (p ∷ ps) h = let i = without-none ps in grind (arith, nat_tests)

  pub without-added : (x : X) (ps : List (ℕ × X)) → look id ps ≡ None → without id (ps ++ (id, x) ∷ []) ≡ without id ps
  without-added x [] h = grind (arith, nat_tests)
  without-added x (p ∷ ps) h = let i = without-added x ps in grind (arith, nat_tests)

  -- ids that are distinct: after the one that is removed there is no other
  look-apart : (j : ℕ) (ps : List (ℕ × X)) → eqb j id ≡ true → AllByRecursion (λ i. nat_eq j i ≡ false) (keys_of ps) → look id ps ≡ None
  look-apart j [] e d = refl
  look-apart j (p ∷ ps) e d = let h = look-apart j ps e d.1 in let n = d.0 in grind (arith, nat_tests)

  pub look-without_same : (ps : List (ℕ × X)) → IsDistinct nat_eq (keys_of ps) → look id (without id ps) ≡ None
  unfolding IsDistinct
  look-without_same [] d = refl
  look-without_same (p ∷ ps) d = by (eqb p.0 id) refl (look-without_same ps d.1)
    where
      by : (b : Bool) → eqb p.0 id ≡ b → look id (without id ps) ≡ None → look id (without id (p ∷ ps)) ≡ None
      by true e rest = rw e (look-apart p.0 ps e d.0)
      by false e rest = rw (e, e) rest

  pub without-without : (ps : List (ℕ × X)) → IsDistinct nat_eq (keys_of ps) → without id (without id ps) ≡ without id ps
  without-without ps d = without-none (without id ps) (look-without_same ps d)

-- what a caller needs between one change and the next, for `grind`
pub ruleset table_laws = (look-change_same, look-change_other, keys-change, length-change, place-change, look-without_other, length-without, look-added_same, look-added_other)
