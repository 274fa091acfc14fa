-- The ids of streams, written to the front of a buffer one after another.
use Rattle.std.proofs.Common.{◌≡◌, ◌⊎◌, inl, inr, ℕ, zero, suc, ◌+◌, ◌<◌, ◌≤◌, List, [], ◌∷◌, ◌++◌, length, take, drop, Bool, true, false, not, ◌&&◌, Some, nat_eq, refl, sym, ap, ◌∙◌, arith, add-one, length-append, append-nil}
use Rattle.std.specs.Prelude.{slice_get, slice_set}
use Rattle.std.specs.List.{list_any}
use Rattle.std.proofs.lemmas.Grind.{common_steps}
use Rattle.std.proofs.lemmas.Option.{same_Some}
use Rattle.ymx_model.specs.session.Records.{End}
use Rattle.ymx_table.specs.Listing.{is_held, held_ids}

-- a buffer with these ids at its front, as many as fit
abbrev pub fronted : (ids base : List ℕ) → List ℕ
fronted ids base = take (length base) ids ++ drop (length ids) base

fronted-length : (xs base : List ℕ) → length (fronted xs base) ≡ length base
fronted-length xs base = grind (arith, common_steps)

fronted-set : (x : ℕ) (xs base : List ℕ) → length xs < length base → slice_set (fronted xs base) (length xs) x ≡ fronted (xs ++ x ∷ []) base
fronted-set x [] [] l = absurd (omega arith)
fronted-set x [] (b ∷ bs) l = grind (arith, common_steps)
fronted-set x (y ∷ ys) [] l = absurd (omega arith)
fronted-set x (y ∷ ys) (b ∷ bs) l = ap (λ (zs : List ℕ). y ∷ zs) (fronted-set x ys bs (omega arith))

fronted-full : (x : ℕ) (xs base : List ℕ) → length base ≤ length xs → fronted xs base ≡ fronted (xs ++ x ∷ []) base
fronted-full x xs base l = grind (arith, common_steps)

-- whether the id of a record is listed
abbrev pub is_listed : List ℕ → (ℕ × End) → Bool
is_listed but p = is_held p.1 && not (list_any (nat_eq p.0) but)

abbrev pub listed : (b : Bool) → ℕ → List ℕ
listed true x = x ∷ []
listed false x = []

-- one record more
held-step : (but : List ℕ) (k : ℕ) (ps : List (ℕ × End)) (p : ℕ × End) (b : Bool) → slice_get ps k ≡ Some p → is_listed but p ≡ b →
    held_ids but (take (suc k) ps) ≡ held_ids but (take k ps) ++ listed b p.0
held-step but k [] p b h t = cc
held-step but zero (q ∷ qs) p b h t = let e : q ≡ p = same_Some q p h in of b (ap (is_listed but) e ∙ t)
  where
    of : (b : Bool) → is_listed but q ≡ b → held_ids but (q ∷ []) ≡ listed b p.0
    of true u = let e : q ≡ p = same_Some q p h in let f : q.0 ≡ p.0 = ap (λ (r : ℕ × End). r.0) e in rw u (ap (λ (x : ℕ). x ∷ []) f)
    of false u = rw u refl
held-step but (suc k) (q ∷ qs) p b h t = of (is_listed but q) refl (held-step but k qs p b h t)
  where
    of : (c : Bool) → is_listed but q ≡ c → held_ids but (take (suc k) qs) ≡ held_ids but (take k qs) ++ listed b p.0 →
        held_ids but (take (suc (suc k)) (q ∷ qs)) ≡ held_ids but (take (suc k) (q ∷ qs)) ++ listed b p.0
    of true u more = rw (u, more) refl
    of false u more = rw (u, more) refl

-- what was counted and written of the first k records
pub record Listed (but : List ℕ) (k : ℕ) (ps : List (ℕ × End)) (base : List ℕ) (count : ℕ) (ids : List ℕ) : Type 0 where
  pub within : count ≤ k
  pub counted : count ≡ length (held_ids but (take k ps))
  pub written : ids ≡ fronted (held_ids but (take k ps)) base

pub listed-first : (but : List ℕ) (ps : List (ℕ × End)) (base : List ℕ) → Listed but 0 ps base 0 base
listed-first but ps base = record { within = omega arith; counted = refl; written = grind (arith, common_steps) }

pub listed-one : (but : List ℕ) (k : ℕ) (ps : List (ℕ × End)) (p : ℕ × End) (base : List ℕ) (count : ℕ) (ids new : List ℕ) → slice_get ps k ≡ Some p → is_listed but p ≡ true →
    (count < length ids → new ≡ slice_set ids count p.0) → (length ids ≤ count → new ≡ ids) → Listed but k ps base count ids → Listed but (k + 1) ps base (count + 1) new
listed-one but k ps p base count ids new h t there full l =
    let step = held-step but k ps p true h t in
    let more : held_ids but (take (k + 1) ps) ≡ held_ids but (take k ps) ++ p.0 ∷ [] = rw add-one step in
    record {
      within = (let w = l.within in omega arith);
      counted = ap (λ (n : ℕ). n + 1) l.counted ∙ sym (ap length more ∙ length-append (held_ids but (take k ps)) (p.0 ∷ []));
      written = of (held_ids but (take k ps)) l.counted l.written ∙ ap (λ (xs : List ℕ). fronted xs base) (sym more);
    }
  where
    of : (xs : List ℕ) → count ≡ length xs → ids ≡ fronted xs base → new ≡ fronted (xs ++ p.0 ∷ []) base
    of xs c i = cases (grind arith)
      where
        long : length ids ≡ length base
        long = ap length i ∙ fronted-length xs base

        cases : (count < length ids) ⊎ (length ids ≤ count) → new ≡ fronted (xs ++ p.0 ∷ []) base
        cases (inl lt) = there lt ∙ rw (i, c) (fronted-set p.0 xs base (let n = long in omega arith))
        cases (inr le) = full le ∙ i ∙ fronted-full p.0 xs base (let n = long in omega arith)

pub listed-none : (but : List ℕ) (k : ℕ) (ps : List (ℕ × End)) (p : ℕ × End) (base : List ℕ) (count : ℕ) (ids : List ℕ) → slice_get ps k ≡ Some p → is_listed but p ≡ false →
    Listed but k ps base count ids → Listed but (k + 1) ps base count ids
listed-none but k ps p base count ids h t l =
    let step = held-step but k ps p false h t in
    let more : held_ids but (take (k + 1) ps) ≡ held_ids but (take k ps) = rw add-one (step ∙ append-nil (held_ids but (take k ps))) in
    record {
      within = (let w = l.within in omega arith);
      counted = l.counted ∙ ap length (sym more);
      written = l.written ∙ ap (λ (xs : List ℕ). fronted xs base) (sym more);
    }
