-- The list of offered streams and the offered records say the same.
use Rattle.std.proofs.Common.{◌≡◌, ◌≢◌, ◌⊎◌, inl, inr, ℕ, ◌<◌, ◌≤◌, List, [], ◌∷◌, ◌++◌, length, true, false, ◌||◌, ◌==◌, Option, None, Some, refl, sym, ap, ◌∙◌, arith}
use Rattle.std.specs.Prelude.{option_map}
use Rattle.std.proofs.lemmas.Grind.{common_steps}
use Rattle.std.proofs.lemmas.Bool.Decides.{nat_tests}
use Rattle.ymx_machine.specs.shared.Phases.{is_offered}
use Rattle.ymx_model.specs.session.Records.{End}
use Rattle.ymx_machine.specs.shared.Lists.{look, change, without, Distinct, drop_id}
use Rattle.ymx_machine.specs.shared.Limits.{most_offered}
use Rattle.ymx_law_session.specs.Limits.{is_listed, Once, is_offered_at, is_taken_at, IsOfferedWithin}
use Rattle.ymx_machine.proofs.Tests.{split, differs, same_or_not}
use Rattle.ymx_machine.proofs.Lists.{look-change_same, look-change_other, look-added_same, look-added_other, look-added_there, look-without_other, look-without_same}

-- ---- the list

pub listed-added : (id j : ℕ) (xs : List ℕ) → is_listed j (xs ++ id ∷ []) ≡ (is_listed j xs || id == j)
listed-added id j [] = grind (arith, nat_tests)
listed-added id j (x ∷ xs) = let h = listed-added id j xs in grind (arith, nat_tests)

pub once-added : (id : ℕ) (xs : List ℕ) → is_listed id xs ≡ false → Once xs → Once (xs ++ id ∷ [])
once-added id [] n o = (refl, tt)
once-added id (x ∷ xs) n o =
    let e = o.0 in
    let h = listed-added id x xs in
    let first : is_listed x (xs ++ id ∷ []) ≡ false = grind (arith, nat_tests) in
    let rest : is_listed id xs ≡ false = grind (arith, nat_tests) in
    (first, once-added id xs rest o.1)

pub listed-drop_other : (id j : ℕ) (xs : List ℕ) → j ≢ id → is_listed j (drop_id id xs) ≡ is_listed j xs
listed-drop_other id j [] n = refl
listed-drop_other id j (x ∷ xs) n = let h = listed-drop_other id j xs n in grind (arith, nat_tests)

pub listed-drop_same : (id : ℕ) (xs : List ℕ) → Once xs → is_listed id (drop_id id xs) ≡ false
listed-drop_same id [] o = refl
listed-drop_same id (x ∷ xs) o = let e = o.0 in let h = listed-drop_same id xs o.1 in grind (arith, nat_tests)

pub once-drop : (id : ℕ) (xs : List ℕ) → Once xs → Once (drop_id id xs)
once-drop id [] o = tt
once-drop id (x ∷ xs) o =
    split Once (x == id) xs (x ∷ drop_id id xs) (λ t. o.1) (λ n. (listed-drop_other id x xs (differs x id n) ∙ o.0, once-drop id xs o.1))

pub length-drop_id : (id : ℕ) (xs : List ℕ) → length (drop_id id xs) ≤ length xs
length-drop_id id [] = omega arith
length-drop_id id (x ∷ xs) = let h = length-drop_id id xs in grind (arith, nat_tests)

-- ---- the records

map_offered : (f : End → End) (o : Option End) → ((e : End) → o ≡ Some e → is_offered (f e).phase ≡ is_offered e.phase) →
    is_offered_at (option_map f o) ≡ is_offered_at o
map_offered f None same = refl
map_offered f (Some e) same = same e refl

pub offered-change : (id j : ℕ) (f : End → End) (ps : List (ℕ × End)) → ((e : End) → look id ps ≡ Some e → is_offered (f e).phase ≡ is_offered e.phase) →
    is_offered_at (look j (change id f ps)) ≡ is_offered_at (look j ps)
offered-change id j f ps same = of id j f ps same (same_or_not j id)
  where
    of : (id j : ℕ) (f : End → End) (ps : List (ℕ × End)) → ((e : End) → look id ps ≡ Some e → is_offered (f e).phase ≡ is_offered e.phase) →
        (j ≡ id) ⊎ (j ≢ id) → is_offered_at (look j (change id f ps)) ≡ is_offered_at (look j ps)
    of id j f ps same (inl e) =
        rw e (ap is_offered_at (look-change_same id f ps) ∙ map_offered f (look id ps) same)
    of id j f ps same (inr n) = ap is_offered_at (look-change_other id j f ps n)

map_taken : (f : End → End) (o : Option End) → ((e : End) → o ≡ Some e → is_offered e.phase ≡ false → is_offered (f e).phase ≡ false) →
    is_taken_at o ≡ true → is_taken_at (option_map f o) ≡ true
map_taken f None keeps t = t
map_taken f (Some e) keeps t = let n : is_offered e.phase ≡ false = grind arith in rw (keeps e refl n) refl

pub taken-change : (id j : ℕ) (f : End → End) (ps : List (ℕ × End)) → ((e : End) → look id ps ≡ Some e → is_offered e.phase ≡ false → is_offered (f e).phase ≡ false) →
    is_taken_at (look j ps) ≡ true → is_taken_at (look j (change id f ps)) ≡ true
taken-change id j f ps keeps t = of id j f ps keeps t (same_or_not j id)
  where
    of : (id j : ℕ) (f : End → End) (ps : List (ℕ × End)) → ((e : End) → look id ps ≡ Some e → is_offered e.phase ≡ false → is_offered (f e).phase ≡ false) →
        is_taken_at (look j ps) ≡ true → (j ≡ id) ⊎ (j ≢ id) → is_taken_at (look j (change id f ps)) ≡ true
    of id j f ps keeps t (inl e) =
        rw (e, look-change_same id f ps) (map_taken f (look id ps) keeps (rw e at t))
    of id j f ps keeps t (inr n) = rw (look-change_other id j f ps n) t

some_taken : (o : Option End) → is_taken_at o ≡ true → (e : End) × (o ≡ Some e)
some_taken None t = cc
some_taken (Some e) t = (e, refl)

pub taken-added : (id j : ℕ) (e : End) (ps : List (ℕ × End)) → is_taken_at (look j ps) ≡ true → is_taken_at (look j (ps ++ (id, e) ∷ [])) ≡ true
taken-added id j e ps t =
    let d = some_taken (look j ps) t in rw (look-added_there id j e d.0 ps d.1) (rw d.1 at t)

-- ---- the two together

pub offered-on : (id : ℕ) (f : End → End) (xs : List ℕ) (ps : List (ℕ × End)) →
    ((e : End) → look id ps ≡ Some e → is_offered (f e).phase ≡ is_offered e.phase) → IsOfferedWithin xs ps → IsOfferedWithin xs (change id f ps)
offered-on id f xs ps same h = record { count = h.count; once = h.once; listed = λ j. h.listed j ∙ sym (offered-change id j f ps same) }

pub offered-added : (id : ℕ) (e : End) (xs : List ℕ) (ps : List (ℕ × End)) → look id ps ≡ None → is_offered e.phase ≡ true → length xs < most_offered →
    IsOfferedWithin xs ps → IsOfferedWithin (xs ++ id ∷ []) (ps ++ (id, e) ∷ [])
offered-added id e xs ps none o l h = record {
  count = grind (arith, common_steps);
  once = once-added id xs (h.listed id ∙ ap is_offered_at none) h.once;
  listed = λ j. of j (same_or_not j id);
}
  where
    of : (j : ℕ) → (j ≡ id) ⊎ (j ≢ id) → is_listed j (xs ++ id ∷ []) ≡ is_offered_at (look j (ps ++ (id, e) ∷ []))
    of j (inl same) = rw (same, look-added_same id e ps none, listed-added id id xs, o) (grind (arith, nat_tests))
    of j (inr n) =
        let t : (id == j) ≡ false = grind (arith, nat_tests) in
        rw (look-added_other id j e ps n, listed-added id j xs, t) (grind (arith, nat_tests, h.listed j))

pub offered-added_other : (id : ℕ) (e : End) (xs : List ℕ) (ps : List (ℕ × End)) → look id ps ≡ None → is_offered e.phase ≡ false →
    IsOfferedWithin xs ps → IsOfferedWithin xs (ps ++ (id, e) ∷ [])
offered-added_other id e xs ps none o h = record { count = h.count; once = h.once; listed = λ j. h.listed j ∙ of j (same_or_not j id) }
  where
    of : (j : ℕ) → (j ≡ id) ⊎ (j ≢ id) → is_offered_at (look j ps) ≡ is_offered_at (look j (ps ++ (id, e) ∷ []))
    of j (inl same) = rw (same, look-added_same id e ps none, o, none) refl
    of j (inr n) = rw (look-added_other id j e ps n) refl

pub offered-removed : (id : ℕ) (xs : List ℕ) (ps : List (ℕ × End)) → Distinct ps → IsOfferedWithin xs ps → IsOfferedWithin (drop_id id xs) (without id ps)
offered-removed id xs ps d h = record {
  count = omega (arith, h.count, length-drop_id id xs);
  once = once-drop id xs h.once;
  listed = λ j. of j (same_or_not j id);
}
  where
    of : (j : ℕ) → (j ≡ id) ⊎ (j ≢ id) → is_listed j (drop_id id xs) ≡ is_offered_at (look j (without id ps))
    of j (inl same) = rw (same, look-without_same id ps d, listed-drop_same id xs h.once) refl
    of j (inr n) = rw (look-without_other id j ps n, listed-drop_other id j xs n) (h.listed j)

pub offered-removed_other : (id : ℕ) (xs : List ℕ) (ps : List (ℕ × End)) → Distinct ps → is_offered_at (look id ps) ≡ false →
    IsOfferedWithin xs ps → IsOfferedWithin xs (without id ps)
offered-removed_other id xs ps d o h = record { count = h.count; once = h.once; listed = λ j. h.listed j ∙ of j (same_or_not j id) }
  where
    of : (j : ℕ) → (j ≡ id) ⊎ (j ≢ id) → is_offered_at (look j ps) ≡ is_offered_at (look j (without id ps))
    of j (inl same) = rw (same, look-without_same id ps d, o) refl
    of j (inr n) = rw (look-without_other id j ps n) refl

-- the first is accepted: it is offered no more
pub offered-accepted : (id : ℕ) (f : End → End) (xs : List ℕ) (ps : List (ℕ × End)) → ((e : End) → is_offered (f e).phase ≡ false) →
    IsOfferedWithin (id ∷ xs) ps → IsOfferedWithin xs (change id f ps)
offered-accepted id f xs ps off h = record {
  count = omega (arith, h.count);
  once = h.once.1;
  listed = λ j. of j (same_or_not j id);
}
  where
    map_none : (o : Option End) → is_offered_at (option_map f o) ≡ false
    map_none None = refl
    map_none (Some e) = off e

    of : (j : ℕ) → (j ≡ id) ⊎ (j ≢ id) → is_listed j xs ≡ is_offered_at (look j (change id f ps))
    of j (inl same) = rw (same, look-change_same id f ps, map_none (look id ps)) h.once.0
    of j (inr n) =
        let t : (id == j) ≡ false = grind (arith, nat_tests) in
        let l : (id == j || is_listed j xs) ≡ is_offered_at (look j ps) = h.listed j in
        rw (look-change_other id j f ps n) (rw t at l)
