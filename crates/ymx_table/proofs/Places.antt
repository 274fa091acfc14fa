-- Where a record stands: the kit's words on a map's entries are the table's own.
use Rattle.std.proofs.Common.{◌≡◌, ℕ, zero, suc, sym, ◌∙◌, ◌<◌, List, [], ◌∷◌, ◌++◌, length, Bool, true, false, eqb, None, Some, refl, ap, arith, add-one, remove, position, slice_get}
use Rattle.std.specs.Prelude.{IsSome, nat_eq}
use Rattle.std.specs.Map.{keys_of, values_of, lookup, remove_entry}
use Rattle.std.specs.List.{position_or_len, IsDistinct, AllByRecursion}
use Rattle.std.proofs.lemmas.Option.{same_Some}
use Rattle.std.proofs.lemmas.Bool.Decides.{nat_tests}
use Rattle.indexmap.specs.IndexMap.{set_value_at, insert_entry}
use Rattle.ymx_machine.specs.shared.Lists.{look, change, without, place}

module _ {X : Type 0} (id : ℕ) where
  -- the map's look-up by key is `look`
  pub lookup_is : (ps : List (ℕ × X)) → lookup (nat_eq id) ps ≡ look id ps
  lookup_is [] = refl
  lookup_is (p ∷ ps) = let h = lookup_is ps in grind (arith, nat_tests)

  -- a removal by key is `without`
  pub remove_entry_is : (ps : List (ℕ × X)) → remove_entry (nat_eq id) ps ≡ without id ps
  remove_entry_is [] = refl
  remove_entry_is (p ∷ ps) = let h = remove_entry_is ps in grind (arith, nat_tests)

  -- the first place at which the key is found is `place`
  pub position_or_len_is : (ps : List (ℕ × X)) → position_or_len (nat_eq id) (keys_of ps) ≡ place id ps
  position_or_len_is [] = refl
  position_or_len_is (p ∷ ps) = let h = position_or_len_is ps in grind (arith, nat_tests)

  -- a record that is there stands within
  pub place-lt : (ps : List (ℕ × X)) → IsSome (look id ps) → place id ps < length ps
  place-lt [] h = grind arith
  place-lt (p ∷ ps) h = let i = place-lt ps in grind (arith, nat_tests)

  -- an insertion of a new key puts it last
  pub insert_entry-new : (ps : List (ℕ × X)) (x : X) → look id ps ≡ None → insert_entry nat_eq ps id x ≡ ps ++ (id, x) ∷ []
  insert_entry-new [] x h = refl
  insert_entry-new (p ∷ ps) x h = let i = insert_entry-new ps x in grind (arith, nat_tests)

  -- a write by place is `change`
  pub set_value_at-place : (ps : List (ℕ × X)) (x : X) → set_value_at ps (place id ps) x ≡ change id (λ _. x) ps
  set_value_at-place [] x = refl
  set_value_at-place (p ∷ ps) x = let h = set_value_at-place ps x in grind (arith, nat_tests)

  -- what stands at the place is what is found
  pub look-place : (ps : List (ℕ × X)) → slice_get (values_of ps) (place id ps) ≡ look id ps
  look-place [] = refl
  look-place (p ∷ ps) = let h = look-place ps in grind (arith, nat_tests)

  pub place-position : (ps : List (ℕ × X)) (at : ℕ) → position (nat_eq id) (keys_of ps) ≡ Some at → at ≡ place id ps
  place-position ps at h = let e = position_or_len_is ps in grind (arith, nat_tests)

  -- a removal by place is `without`
  pub remove-place : (ps : List (ℕ × X)) → IsSome (look id ps) → remove ps (place id ps) ≡ without id ps
  remove-place [] h = grind arith
  remove-place (p ∷ ps) h = by (eqb p.0 id) refl (remove-place ps)
    where
      by : (b : Bool) → eqb p.0 id ≡ b → (IsSome (look id ps) → remove ps (place id ps) ≡ without id ps) → remove (p ∷ ps) (place id (p ∷ ps)) ≡ without id (p ∷ ps)
      by true e rest = rw e refl
      by false e rest = rw (e, add-one) (ap (λ qs. p ∷ qs) (rest (rw e at h)))

-- an id that is apart from all these is apart from the one at a place
apart-at : {X : Type 0} (j : ℕ) (ps : List (ℕ × X)) (at : ℕ) (p : ℕ × X) → AllByRecursion (λ i. nat_eq j i ≡ false) (keys_of ps)
    → slice_get ps at ≡ Some p → nat_eq j p.0 ≡ false
apart-at j [] at p d h = cc
apart-at j (q ∷ ps) zero p d h = let e : q ≡ p = same_Some q p h in ap (λ (r : ℕ × _). nat_eq j r.0) (sym e) ∙ d.0
apart-at j (q ∷ ps) (suc at) p d h = apart-at j ps at p d.1 h

module _ {X : Type 0} (id : ℕ) where
  -- what stands at a place under this id is there
  pub look-at : (ps : List (ℕ × X)) (at : ℕ) (p : ℕ × X) → slice_get ps at ≡ Some p → p.0 ≡ id → IsSome (look id ps)
  look-at [] at p h e = cc
  look-at (q ∷ ps) zero p h e = let s : q ≡ p = same_Some q p h in let t : q.0 ≡ id = ap (λ (r : ℕ × X). r.0) s ∙ e in grind (arith, nat_tests)
  look-at (q ∷ ps) (suc at) p h e = let i = look-at ps at p h e in grind (arith, nat_tests)

  -- where ids are distinct, a record stands at no place but its own
  pub place-only : (ps : List (ℕ × X)) (at : ℕ) (p : ℕ × X) → IsDistinct nat_eq (keys_of ps) → slice_get ps at ≡ Some p → p.0 ≡ id → at ≡ place id ps
  unfolding IsDistinct
  place-only [] at p d h e = cc
  place-only (q ∷ ps) zero p d h e = let s : q ≡ p = same_Some q p h in let t : q.0 ≡ id = ap (λ (r : ℕ × X). r.0) s ∙ e in grind (arith, nat_tests)
  place-only (q ∷ ps) (suc at) p d h e =
      let i = place-only ps at p d.1 h e in
      let n = apart-at q.0 ps at p d.0 h in
      grind (arith, nat_tests)
