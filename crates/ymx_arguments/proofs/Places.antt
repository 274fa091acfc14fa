-- Networks in their places.
use Rattle.std.proofs.Common.{◌≡◌, ◌≢◌, ◌<◌, ◌+◌, ℕ, zero, suc, List, [], ◌∷◌, Option, Some, arith, refl, sym, ap, subst, length, below_more}
use Rattle.std.specs.Prelude.{IsSomeAnd, slice_get, slice_set}
use Rattle.ymx_policy.specs.declared.options.Network.{Network}

-- what was written at a place stands there
set_same : (xs : List Network) (i : ℕ) (x : Network) → i < length xs → slice_get (slice_set xs i x) i ≡ Some x
set_same [] i x lt = absurd (omega arith)
set_same (y ∷ ys) zero x lt = refl
set_same (y ∷ ys) (suc i) x lt = set_same ys i x (omega arith)

-- and all else as before
set_other : (xs : List Network) (i k : ℕ) (x : Network) → k ≢ i → slice_get (slice_set xs i x) k ≡ slice_get xs k
set_other [] i k x ne = refl
set_other (y ∷ ys) zero zero x ne = absurd (ne refl)
set_other (y ∷ ys) zero (suc k) x ne = refl
set_other (y ∷ ys) (suc i) zero x ne = refl
set_other (y ∷ ys) (suc i) (suc k) x ne = set_other ys i k x (λ e. ne (ap suc e))

-- where each place up to one has its network, and that one gets its own, each up to the next has
pub placed : (P : ℕ → Network → Type 0) (xs : List Network) (i : ℕ) (x : Network) → i < length xs → ((k : ℕ) → k < i → IsSomeAnd (slice_get xs k) (P k)) → P i x →
    (k : ℕ) → k < i + 1 → IsSomeAnd (slice_get (slice_set xs i x) k) (P k)
placed P xs i x lt before now =
    below_more (λ k. IsSomeAnd (slice_get (slice_set xs i x) k) (P k)) i
    (λ k h. let ne : k ≢ i = omega arith in subst (λ (o : Option Network). IsSomeAnd o (P k)) (sym (set_other xs i k x ne)) (before k h))
    (subst (λ (o : Option Network). IsSomeAnd o (P i)) (sym (set_same xs i x lt)) now)
