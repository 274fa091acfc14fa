-- The window over one step, and over many.
use Rattle.std.proofs.Common.{◌≡◌, List, [], ◌∷◌, refl, ◌∙◌, arith}
use Rattle.ymx_credit.specs.Flows.{Flow, Step, IsBalanced, IsPossible, ArePossible, flow_after, flow_after_all}
use Rattle.ymx_credit.specs.Flows.Step.{Spend, Arrive, Read, Announce, Grant}

-- one step keeps the balance
pub IsBalanced-after : (s : Step) (f : Flow) → IsPossible s f → IsBalanced f → IsBalanced (flow_after s f)
IsBalanced-after (Spend n) f possible balanced = omega arith
IsBalanced-after (Arrive n) f possible balanced = omega arith
IsBalanced-after (Read n) f possible balanced = omega arith
IsBalanced-after (Announce n) f possible balanced = omega arith
IsBalanced-after (Grant n) f possible balanced = omega arith

-- so do many
pub IsBalanced-after_all : (ss : List Step) (f : Flow) → ArePossible ss f → IsBalanced f → IsBalanced (flow_after_all ss f)
IsBalanced-after_all [] f possible balanced = balanced
IsBalanced-after_all (s ∷ ss) f possible balanced =
    IsBalanced-after_all ss (flow_after s f) possible.1 (IsBalanced-after s f possible.0 balanced)

-- one step changes no window
pub window-after : (s : Step) (f : Flow) → (flow_after s f).window ≡ f.window
window-after (Spend n) f = refl
window-after (Arrive n) f = refl
window-after (Read n) f = refl
window-after (Announce n) f = refl
window-after (Grant n) f = refl

-- nor do many
pub window-after_all : (ss : List Step) (f : Flow) → (flow_after_all ss f).window ≡ f.window
window-after_all [] f = refl
window-after_all (s ∷ ss) f = window-after_all ss (flow_after s f) ∙ window-after s f
