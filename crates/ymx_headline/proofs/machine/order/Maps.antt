-- What stands under a number after a change, as the machine's laws ask for it, and lists of numbers that pass a test.
use Rattle.std.proofs.Common.{◌≡◌, ◌≢◌, inl, inr, ℕ, List, [], ◌∷◌, ◌++◌, Bool, true, false, not, ◌==◌, map, Option, None, Some, refl, subst, arith}
use Rattle.std.proofs.lemmas.Bool.Decides.{nat_tests}
use Rattle.ymx_machine.specs.stream.Streams.{Stream, flip}
use Rattle.ymx_machine.specs.shared.Lists.{look, change, drop_id}
use Rattle.ymx_machine.specs.machine.Machines.{flip_entry}
use Rattle.ymx_headline.specs.machine.Numbers.{is_in, AllOnce}
use Rattle.ymx_machine.proofs.Tests.{when, is-self, is-other}
use Rattle.ymx_machine.proofs.Lists.{look-change_there, look-change_other as others-change, look-added_same, look-added_other, look-added_there}

pub look-change : {X : Type 0} (i : ℕ) (f : X → X) (xs : List (ℕ × X)) (x : X) → look i xs ≡ Some x → look i (change i f xs) ≡ Some (f x)
look-change i f xs x e = look-change_there i f xs x e

pub look-change_other : {X : Type 0} (i j : ℕ) (f : X → X) (xs : List (ℕ × X)) → i ≢ j → look i (change j f xs) ≡ look i xs
look-change_other i j f xs n = others-change j i f xs n

pub look-add : {X : Type 0} (i : ℕ) (x : X) (xs : List (ℕ × X)) → look i xs ≡ None → look i (xs ++ (i, x) ∷ []) ≡ Some x
look-add i x xs e = look-added_same i x xs e

pub look-add_other : {X : Type 0} (i j : ℕ) (x : X) (xs : List (ℕ × X)) → i ≢ j → look i (xs ++ (j, x) ∷ []) ≡ look i xs
look-add_other i j x xs n = look-added_other j i x xs n

pub look-add_there : {X : Type 0} (i j : ℕ) (x y : X) (xs : List (ℕ × X)) → look i xs ≡ Some y → look i (xs ++ (j, x) ∷ []) ≡ Some y
look-add_there i j x y xs e = look-added_there j i x y xs e

not-back : (b : Bool) → not (not b) ≡ b
not-back true = refl
not-back false = refl

pub flip-back : (s : Stream) → flip (flip s) ≡ s
flip-back s = rw (not-back s.own) refl

abbrev pub flipped : Option Stream → Option Stream
flipped None = None
flipped (Some s) = Some (flip s)

pub look-mirror : (i : ℕ) (xs : List (ℕ × Stream)) → look i (map flip_entry xs) ≡ flipped (look i xs)
look-mirror i [] = refl
look-mirror i (p ∷ ps) = elim (when (p.0 == i)) [
  | inl h ↦ rw h refl
  | inr h ↦ rw h (look-mirror i ps)
]

-- ---- a list of numbers, each once, that pass a test

pub all-pass : (g g' : ℕ → Bool) (xs : List ℕ) → ((i : ℕ) → is_in i xs ≡ true → g i ≡ true → g' i ≡ true) → AllOnce g xs → AllOnce g' xs
all-pass g g' [] f c = tt
all-pass g g' (x ∷ xs) f c = (f x (rw (is-self x) refl) c.0, c.1, all-pass g g' xs (λ i s. f i (grind (arith, nat_tests))) c.2)

pub pass-at : (g : ℕ → Bool) (i : ℕ) (xs : List ℕ) → is_in i xs ≡ true → AllOnce g xs → g i ≡ true
pass-at g i [] s c = absurd (cc)
pass-at g i (x ∷ xs) s c = elim (when (x == i)) [
  | inl h ↦ (let e : x ≡ i = grind (arith, nat_tests) in subst (λ (k : ℕ). g k ≡ true) e c.0)
  | inr h ↦ pass-at g i xs (rw h at s) c.2
]

stands-add : (i j : ℕ) (xs : List ℕ) → i ≢ j → is_in i xs ≡ false → is_in i (xs ++ j ∷ []) ≡ false
stands-add i j [] n s = grind (arith, nat_tests)
stands-add i j (x ∷ xs) n s = elim (when (x == i)) [
  | inl h ↦ (let k : true ≡ false = rw h at s in absurd (cc))
  | inr h ↦ rw h (stands-add i j xs n (rw h at s))
]

pub all-add : (g : ℕ → Bool) (i : ℕ) (xs : List ℕ) → g i ≡ true → is_in i xs ≡ false → AllOnce g xs → AllOnce g (xs ++ i ∷ [])
all-add g i [] p s c = (p, refl, tt)
all-add g i (x ∷ xs) p s c = elim (when (x == i)) [
  | inl h ↦ (let k : true ≡ false = rw h at s in absurd (cc))
  | inr h ↦ (c.0, stands-add x i xs (grind (arith, nat_tests)) c.1, all-add g i xs p (rw h at s) c.2)
]

stands-drop : (i j : ℕ) (xs : List ℕ) → is_in i xs ≡ false → is_in i (drop_id j xs) ≡ false
stands-drop i j [] s = refl
stands-drop i j (x ∷ xs) s = let h = stands-drop i j xs in grind (arith, nat_tests)

pub all-drop : (g : ℕ → Bool) (i : ℕ) (xs : List ℕ) → AllOnce g xs → AllOnce g (drop_id i xs) × (is_in i (drop_id i xs) ≡ false)
all-drop g i [] c = (tt, refl)
all-drop g i (x ∷ xs) c = elim (when (x == i)) [
  | inl h ↦ (let e : x ≡ i = grind (arith, nat_tests) in rw h (c.2, subst (λ (k : ℕ). is_in k xs ≡ false) e c.1))
  | inr h ↦ (let k = all-drop g i xs c.2 in rw (h, h) ((c.0, stands-drop x i xs c.1, k.0), k.1))
]

pub in-drop : (i j : ℕ) (xs : List ℕ) → i ≢ j → is_in i xs ≡ true → is_in i (drop_id j xs) ≡ true
in-drop i j [] n s = s
in-drop i j (x ∷ xs) n s = let h = in-drop i j xs n in grind (arith, nat_tests)

pub in-add : (i j : ℕ) (xs : List ℕ) → is_in i xs ≡ true → is_in i (xs ++ j ∷ []) ≡ true
in-add i j [] s = absurd (cc)
in-add i j (x ∷ xs) s = let h = in-add i j xs in grind (arith, nat_tests)

pub in-added : (i : ℕ) (xs : List ℕ) → is_in i (xs ++ i ∷ []) ≡ true
in-added i [] = rw (is-self i) refl
in-added i (x ∷ xs) = let h = in-added i xs in grind (arith, nat_tests)

pub in-rest : (i j : ℕ) (xs : List ℕ) → i ≢ j → is_in i (j ∷ xs) ≡ true → is_in i xs ≡ true
in-rest i j xs n s = rw (is-other i j n) at s
