-- The machine from the other side and back, and a machine of one stream.
use Rattle.std.proofs.Common.{◌≡◌, ◌≢◌, inl, inr, ℕ, List, [], ◌∷◌, Bool, true, false, not, ◌==◌, Some, map, refl, sym, ap, ◌∙◌, subst}
use Rattle.ymx_machine.specs.stream.Streams.{Stream, flip}
use Rattle.ymx_machine.specs.shared.Lists.{look, change}
use Rattle.ymx_machine.specs.machine.Machines.{Machine, mirror_machine, flip_entry}
use Rattle.ymx_machine.proofs.Tests.{is-self, is-other, same_or_not, one_some}

not-not : (b : Bool) → not (not b) ≡ b
not-not true = refl
not-not false = refl

pub flip-flip : (s : Stream) → flip (flip s) ≡ s
flip-flip s = ap (λ (b : Bool). record s { own = b }) (not-not s.own)

flips : (xs : List (ℕ × Stream)) → map flip_entry (map flip_entry xs) ≡ xs
flips [] = refl
flips (x ∷ xs) = ap (λ (s : Stream). (x.0, s) ∷ map flip_entry (map flip_entry xs)) (flip-flip x.1) ∙ ap (λ (ys : List (ℕ × Stream)). x ∷ ys) (flips xs)

pub mirror-mirror : (m : Machine) → mirror_machine (mirror_machine m) ≡ m
mirror-mirror m = ap (λ (xs : List (ℕ × Stream)). record m { streams = xs }) (flips m.streams)

-- what is seen from the other side is so
pub from-mirror : (m n : Machine) → mirror_machine m ≡ mirror_machine n → m ≡ n
from-mirror m n e = sym (mirror-mirror m) ∙ (ap mirror_machine e ∙ mirror-mirror n)

-- ---- one stream

pub change-one : (id : ℕ) (f : Stream → Stream) (s : Stream) → change id f ((id, s) ∷ []) ≡ (id, f s) ∷ []
change-one id f s = rw (is-self id) refl

pub look-one : (id : ℕ) (s : Stream) → look id ((id, s) ∷ []) ≡ Some s
look-one id s = rw (is-self id) refl

none-there : (i id : ℕ) (s t : Stream) → id ≢ i → look i ((id, s) ∷ []) ≡ Some t → ⊥
none-there i id s t n e = let k : (id == i) ≡ false = is-other i id (λ q. n (sym q)) in let e' = rw k at e in absurd cc

-- what is found is the one
pub found-one : (i id : ℕ) (s t : Stream) → look i ((id, s) ∷ []) ≡ Some t → (i ≡ id) × (t ≡ s)
found-one i id s t e = elim (same_or_not i id) [
  | inl same ↦ (same, (let e' : look id ((id, s) ∷ []) ≡ Some t = subst (λ (j : ℕ). look j ((id, s) ∷ []) ≡ Some t) same e in one_some t s (sym e' ∙ look-one id s)))
  | inr other ↦ absurd (none-there i id s t (λ q. other (sym q)) e)
]
