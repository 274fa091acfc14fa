-- Lists by number: what stands under a number, and how one of them changes (this project's own).
use Rattle.std.specs.Prelude.{ℕ, ◌∷◌, ◌==◌, if◌then◌else◌, ◌+◌, ◌≡◌, List, [], Option, None, Some}

-- what stands under a number
abbrev pub look : {X : Type 0} → ℕ → List (ℕ × X) → Option X
look id [] = None
look id (p ∷ ps) = if p.0 == id then Some p.1 else look id ps

-- what stands under one number changes, and nothing else does
abbrev pub change : {X : Type 0} → ℕ → (X → X) → List (ℕ × X) → List (ℕ × X)
change id f [] = []
change id f (p ∷ ps) = if p.0 == id then (p.0, f p.1) ∷ ps else p ∷ change id f ps

-- what stands under one number goes, and those after it move up
abbrev pub without : {X : Type 0} → ℕ → List (ℕ × X) → List (ℕ × X)
without id [] = []
without id (p ∷ ps) = if p.0 == id then ps else p ∷ without id ps

-- the place of a number: how many stand before it
abbrev pub place : {X : Type 0} → ℕ → List (ℕ × X) → ℕ
place id [] = 0
place id (p ∷ ps) = if p.0 == id then 0 else place id ps + 1

-- no number stands twice
abbrev pub Distinct : {X : Type 0} → List (ℕ × X) → Type 0
Distinct [] = Unit
Distinct (p ∷ ps) = (look p.0 ps ≡ None) × Distinct ps

-- a number that stands first goes
abbrev pub drop_id : ℕ → List ℕ → List ℕ
drop_id id [] = []
drop_id id (x ∷ xs) = if x == id then xs else x ∷ drop_id id xs
