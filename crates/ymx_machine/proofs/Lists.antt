-- Numbered lists: what stands under a number after an entry is changed, added or removed.
use Rattle.std.proofs.Common.{◌≡◌, ◌≢◌, ◌⊎◌, inl, inr, ℕ, ◌+◌, ◌<◌, ◌≤◌, List, [], ◌∷◌, ◌++◌, length, Bool, true, false, ◌==◌, if◌then◌else◌, Option, None, Some, refl, sym, ap, ◌∙◌, arith}
use Rattle.std.specs.Prelude.{is_some, option_map}
use Rattle.std.proofs.lemmas.Bool.Decides.{nat_tests}
use Rattle.ymx_machine.specs.shared.Lists.{look, change, without, place, Distinct}
use Rattle.ymx_machine.proofs.Tests.{split, differs, agrees, same_or_not}

-- ---- change

pub look-change_same : {X : Type 0} (id : ℕ) (f : X → X) (ps : List (ℕ × X)) → look id (change id f ps) ≡ option_map f (look id ps)
look-change_same id f [] = refl
look-change_same id f (p ∷ ps) = let h = look-change_same id f ps in grind (arith, nat_tests)

-- what is there is changed
pub look-change_there : {X : Type 0} (id : ℕ) (f : X → X) (ps : List (ℕ × X)) (e : X) → look id ps ≡ Some e → look id (change id f ps) ≡ Some (f e)
look-change_there id f ps e l = look-change_same id f ps ∙ ap (option_map f) l

pub look-change_other : {X : Type 0} (id j : ℕ) (f : X → X) (ps : List (ℕ × X)) → j ≢ id → look j (change id f ps) ≡ look j ps
look-change_other id j f [] n = refl
look-change_other id j f (p ∷ ps) n = let h = look-change_other id j f ps n in grind (arith, nat_tests)

pub length-change : {X : Type 0} (id : ℕ) (f : X → X) (ps : List (ℕ × X)) → length (change id f ps) ≡ length ps
length-change id f [] = refl
length-change id f (p ∷ ps) = let h = length-change id f ps in grind (arith, nat_tests)

pub place-change : {X : Type 0} (id j : ℕ) (f : X → X) (ps : List (ℕ × X)) → place j (change id f ps) ≡ place j ps
place-change id j f [] = refl
place-change id j f (p ∷ ps) = let h = place-change id j f ps in grind (arith, nat_tests)

mapped : {X : Type 0} (f : X → X) (o : Option X) (e : X) → option_map f o ≡ Some e → (d : X) × (o ≡ Some d) × (e ≡ f d)
mapped f None e l = cc
mapped f (Some d) e l = (d, refl, cc)

-- what is found after a change was there before, changed or not
pub look_before : {X : Type 0} (id j : ℕ) (f : X → X) (ps : List (ℕ × X)) (e : X) → look j (change id f ps) ≡ Some e →
    (d : X) × (look j ps ≡ Some d) × (((j ≡ id) × (e ≡ f d)) ⊎ ((j ≢ id) × (e ≡ d)))
look_before id j f ps e l = of id j f ps e l (same_or_not j id)
  where
    of : {X : Type 0} (id j : ℕ) (f : X → X) (ps : List (ℕ × X)) (e : X) → look j (change id f ps) ≡ Some e → (j ≡ id) ⊎ (j ≢ id) →
        (d : X) × (look j ps ≡ Some d) × (((j ≡ id) × (e ≡ f d)) ⊎ ((j ≢ id) × (e ≡ d)))
    of id j f ps e l (inl same) =
        let m = mapped f (look j ps) e (sym (look-change_same j f ps) ∙ (ap (λ k. look j (change k f ps)) same ∙ l)) in
        (m.0, m.1, inl (same, m.2))
    of id j f ps e l (inr n) = (e, sym (look-change_other id j f ps n) ∙ l, inr (n, refl))

pub distinct-change : {X : Type 0} (id : ℕ) (f : X → X) (ps : List (ℕ × X)) → Distinct ps → Distinct (change id f ps)
distinct-change id f [] d = tt
distinct-change id f (p ∷ ps) d =
    split Distinct (p.0 == id) ((p.0, f p.1) ∷ ps) (p ∷ change id f ps) (λ t. d)
    (λ n. (look-change_other id p.0 f ps (differs p.0 id n) ∙ d.0, distinct-change id f ps d.1))

-- ---- a record more

further : {X : Type 0} (b : Bool) (x : X) (o r : Option X) (d e : X) (j id : ℕ) → (r ≡ Some d → (o ≡ Some d) ⊎ ((o ≡ None) × (j ≡ id) × (d ≡ e))) →
    (if b then Some x else r) ≡ Some d → ((if b then Some x else o) ≡ Some d) ⊎ (((if b then Some x else o) ≡ None) × (j ≡ id) × (d ≡ e))
further true x o r d e j id more l = inl l
further false x o r d e j id more l = more l

pub look-added_before : {X : Type 0} (id j : ℕ) (e d : X) (ps : List (ℕ × X)) → look j (ps ++ (id, e) ∷ []) ≡ Some d →
    (look j ps ≡ Some d) ⊎ ((look j ps ≡ None) × (j ≡ id) × (d ≡ e))
look-added_before {X} id j e d [] l =
    split (λ o. o ≡ Some d → (let n : Option X = None in n ≡ Some d) ⊎ ((let n : Option X = None in n ≡ None) × (j ≡ id) × (d ≡ e))) (id == j) (Some e) None
    (λ t l. inr (refl, sym (agrees id j t), cc)) (λ n l. inl l) l
look-added_before id j e d (p ∷ ps) l = further (p.0 == j) p.1 _ _ d e j id (look-added_before id j e d ps) l

pub look-added_same : {X : Type 0} (id : ℕ) (e : X) (ps : List (ℕ × X)) → look id ps ≡ None → look id (ps ++ (id, e) ∷ []) ≡ Some e
look-added_same id e [] n = grind (arith, nat_tests)
look-added_same id e (p ∷ ps) n = let h = look-added_same id e ps in grind (arith, nat_tests)

pub look-added_other : {X : Type 0} (id j : ℕ) (e : X) (ps : List (ℕ × X)) → j ≢ id → look j (ps ++ (id, e) ∷ []) ≡ look j ps
look-added_other id j e [] n = grind (arith, nat_tests)
look-added_other id j e (p ∷ ps) n = let h = look-added_other id j e ps n in grind (arith, nat_tests)

apart : {X : Type 0} (id j : ℕ) (x : X) (o : Option X) → (if j == id then Some x else o) ≡ None → id ≢ j
apart id j x o n = grind (arith, nat_tests)

beyond : {X : Type 0} (b : Bool) (x : X) (o : Option X) → (if b then Some x else o) ≡ None → o ≡ None
beyond true x o n = cc
beyond false x o n = n

pub distinct-added : {X : Type 0} (id : ℕ) (e : X) (ps : List (ℕ × X)) → look id ps ≡ None → Distinct ps → Distinct (ps ++ (id, e) ∷ [])
distinct-added id e [] n d = (refl, tt)
distinct-added id e (p ∷ ps) n d =
    let other : id ≢ p.0 = apart id p.0 p.1 (look id ps) n in
    (look-added_other id p.0 e ps (λ q. other (sym q)) ∙ d.0, distinct-added id e ps (beyond (p.0 == id) p.1 (look id ps) n) d.1)

-- ---- a record less

pub look-without_other : {X : Type 0} (id j : ℕ) (ps : List (ℕ × X)) → j ≢ id → look j (without id ps) ≡ look j ps
look-without_other id j [] n = refl
look-without_other id j (p ∷ ps) n = let h = look-without_other id j ps n in grind (arith, nat_tests)

pub look-without_same : {X : Type 0} (id : ℕ) (ps : List (ℕ × X)) → Distinct ps → look id (without id ps) ≡ None
look-without_same id [] d = refl
look-without_same id (p ∷ ps) d = let h = look-without_same id ps d.1 in let e : look p.0 ps ≡ None = d.0 in grind (arith, nat_tests)

pub distinct-without : {X : Type 0} (id : ℕ) (ps : List (ℕ × X)) → Distinct ps → Distinct (without id ps)
distinct-without id [] d = tt
distinct-without id (p ∷ ps) d =
    split Distinct (p.0 == id) ps (p ∷ without id ps) (λ t. d.1)
    (λ n. (look-without_other id p.0 ps (differs p.0 id n) ∙ d.0, distinct-without id ps d.1))

pub length-without : {X : Type 0} (id : ℕ) (ps : List (ℕ × X)) → length (without id ps) ≤ length ps
length-without id [] = omega arith
length-without id (p ∷ ps) = let h = length-without id ps in grind (arith, nat_tests)

pub length-without_there : {X : Type 0} (id : ℕ) (ps : List (ℕ × X)) → is_some (look id ps) ≡ true → length (without id ps) + 1 ≡ length ps
length-without_there id [] t = cc
length-without_there id (p ∷ ps) t = let h = length-without_there id ps in grind (arith, nat_tests)

pub place-within : {X : Type 0} (id : ℕ) (ps : List (ℕ × X)) → is_some (look id ps) ≡ true → place id ps < length ps
place-within id [] t = cc
place-within id (p ∷ ps) t = let h = place-within id ps in grind (arith, nat_tests)

-- ---- what was there stays

pub look-added_there : {X : Type 0} (id j : ℕ) (e d : X) (ps : List (ℕ × X)) → look j ps ≡ Some d → look j (ps ++ (id, e) ∷ []) ≡ Some d
look-added_there id j e d [] l = cc
look-added_there id j e d (p ∷ ps) l = stays (p.0 == j) p.1 (look j ps) _ d (look-added_there id j e d ps) l
  where
    stays : {X : Type 0} (b : Bool) (x : X) (o r : Option X) (d : X) → (o ≡ Some d → r ≡ Some d) → (if b then Some x else o) ≡ Some d → (if b then Some x else r) ≡ Some d
    stays true x o r d more l = l
    stays false x o r d more l = more l

-- what is found after a record went was there before
pub look-without_before : {X : Type 0} (id j : ℕ) (e : X) (ps : List (ℕ × X)) → Distinct ps → look j (without id ps) ≡ Some e → (j ≢ id) × (look j ps ≡ Some e)
look-without_before id j e ps d l = of id j e ps d l (same_or_not j id)
  where
    of : {X : Type 0} (id j : ℕ) (e : X) (ps : List (ℕ × X)) → Distinct ps → look j (without id ps) ≡ Some e → (j ≡ id) ⊎ (j ≢ id) → (j ≢ id) × (look j ps ≡ Some e)
    of id j e ps d l (inl same) =
        let n : look j (without id ps) ≡ None = ap (λ k. look k (without id ps)) same ∙ look-without_same id ps d in
        let no : None ≡ Some e = sym n ∙ l in (absurd cc, absurd cc)
    of id j e ps d l (inr n) = (n, sym (look-without_other id j ps n) ∙ l)

-- ---- a number that had none is added at the end

pub change-added : {X : Type 0} (id : ℕ) (f : X → X) (e : X) (ps : List (ℕ × X)) → look id ps ≡ None → change id f (ps ++ (id, e) ∷ []) ≡ ps ++ (id, f e) ∷ []
change-added id f e [] n = grind (arith, nat_tests)
change-added id f e (p ∷ ps) n = let h = change-added id f e ps (beyond (p.0 == id) p.1 (look id ps) n) in grind (arith, nat_tests)

pub without-added : {X : Type 0} (id : ℕ) (e : X) (ps : List (ℕ × X)) → look id ps ≡ None → without id (ps ++ (id, e) ∷ []) ≡ ps
without-added id e [] n = grind (arith, nat_tests)
without-added id e (p ∷ ps) n = let h = without-added id e ps (beyond (p.0 == id) p.1 (look id ps) n) in grind (arith, nat_tests)

pub place-added : {X : Type 0} (id : ℕ) (e : X) (ps : List (ℕ × X)) → look id ps ≡ None → place id (ps ++ (id, e) ∷ []) ≡ length ps
place-added id e [] n = grind (arith, nat_tests)
place-added id e (p ∷ ps) n = let h = place-added id e ps (beyond (p.0 == id) p.1 (look id ps) n) in grind (arith, nat_tests)
