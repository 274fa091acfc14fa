-- What stands at a place of a list, as one more comes after it or another takes a place.
use Rattle.std.proofs.Common.{◌≡◌, ◌≢◌, ◌⊎◌, ◌<◌, ◌==◌, ℕ, List, [], ◌∷◌, ◌++◌, length, set, Bool, true, false, refl, sym, ap, ◌∙◌, inl, inr, arith}
use Rattle.std.specs.Prelude.{slice_get, get_or, Some}
use Rattle.std.proofs.Math.Seq.{get_or-append_seam}
use Rattle.std.proofs.lemmas.Bool.Decides.{nat_tests}
use Rattle.std.proofs.lemmas.List.{length-append, length-set, get_or_append_left, get_or-set_same, get_or-set_other}
use Rattle.std.proofs.lemmas.Option.{slice_get_within, slice_get-get_or, get_or_from_slice_get}

module _ {A : Type 0} where
  pub got_before : (xs : List A) (y : A) (n : ℕ) (x : A) → slice_get xs n ≡ Some x → slice_get (xs ++ y ∷ []) n ≡ Some x
  got_before xs y n x e =
      let within : n < length xs = slice_get_within xs n x e in
      let long = length-append xs (y ∷ []) in
      slice_get-get_or (xs ++ y ∷ []) n x (omega (arith, within, long)) ∙ ap (λ z. Some z) (get_or_append_left xs (y ∷ []) x n within ∙ get_or_from_slice_get xs n x x e)

  pub got_last : (xs : List A) (y : A) → slice_get (xs ++ y ∷ []) (length xs) ≡ Some y
  got_last xs y = let long = length-append xs (y ∷ []) in slice_get-get_or (xs ++ y ∷ []) (length xs) y (omega (arith, long)) ∙ ap (λ z. Some z) (get_or-append_seam xs y [] y)

  pub some_same : (x y : A) → Some x ≡ Some y → x ≡ y
  some_same x y e = cc

  -- what stands at a place stood there before, or is the new one
  pub got_pushed : (xs : List A) (y : A) (n : ℕ) (x : A) → slice_get (xs ++ y ∷ []) n ≡ Some x → (slice_get xs n ≡ Some x) ⊎ ((n ≡ length xs) × (x ≡ y))
  got_pushed xs y n x e = of (n == length xs) refl
    where
      of : (b : Bool) → (n == length xs) ≡ b → (slice_get xs n ≡ Some x) ⊎ ((n ≡ length xs) × (x ≡ y))
      of true h =
          let here : n ≡ length xs = grind (arith, nat_tests) in
          inr (here, some_same x y (sym e ∙ ap (slice_get (xs ++ y ∷ [])) here ∙ got_last xs y))
      of false h =
          let within : n < length (xs ++ y ∷ []) = slice_get_within (xs ++ y ∷ []) n x e in
          let long = length-append xs (y ∷ []) in
          let apart : n ≢ length xs = λ same. grind (arith, nat_tests) in
          let before : n < length xs = omega (arith, within, long, apart) in
          let there : get_or xs n x ≡ x = sym (get_or_append_left xs (y ∷ []) x n before) ∙ get_or_from_slice_get (xs ++ y ∷ []) n x x e in
          inl (slice_get-get_or xs n x before ∙ ap (λ z. Some z) there)

  pub got_same : (xs : List A) (n : ℕ) (was x : A) → slice_get xs n ≡ Some was → slice_get (set xs n x) n ≡ Some x
  got_same xs n was x e =
      let within : n < length xs = slice_get_within xs n was e in
      let long = length-set xs n x in
      slice_get-get_or (set xs n x) n x (omega (arith, within, long)) ∙ ap (λ z. Some z) (get_or-set_same xs n x x within)

  pub got_other : (xs : List A) (n m : ℕ) (x it : A) → m ≢ n → slice_get xs m ≡ Some it → slice_get (set xs n x) m ≡ Some it
  got_other xs n m x it apart e =
      let within : m < length xs = slice_get_within xs m it e in
      let long = length-set xs n x in
      slice_get-get_or (set xs n x) m it (omega (arith, within, long)) ∙ ap (λ z. Some z) (get_or-set_other xs n m x it apart ∙ get_or_from_slice_get xs m it it e)

  -- what stands at a place stood there before, or was put there
  pub got_set : (xs : List A) (n m : ℕ) (was x it : A) → slice_get xs n ≡ Some was → slice_get (set xs n x) m ≡ Some it → (slice_get xs m ≡ Some it) ⊎ ((m ≡ n) × (it ≡ x))
  got_set xs n m was x it known e = of (m == n) refl
    where
      of : (b : Bool) → (m == n) ≡ b → (slice_get xs m ≡ Some it) ⊎ ((m ≡ n) × (it ≡ x))
      of true h =
          let here : m ≡ n = grind (arith, nat_tests) in
          inr (here, some_same it x (sym e ∙ ap (slice_get (set xs n x)) here ∙ got_same xs n was x known))
      of false h =
          let apart : m ≢ n = λ same. grind (arith, nat_tests) in
          let within : m < length (set xs n x) = slice_get_within (set xs n x) m it e in
          let long = length-set xs n x in
          let before : m < length xs = omega (arith, within, long) in
          inl (slice_get-get_or xs m it before ∙ ap (λ z. Some z) (sym (get_or-set_other xs n m x it apart) ∙ get_or_from_slice_get (set xs n x) m it it e))
