-- When the seats' lists and a transcript agree.
use Rattle.std.specs.Prelude.{◌≡◌, ℕ, ◌+◌, ◌≤◌, List, [], ◌∷◌, All, sum_by}
use Rattle.ymx_model.specs.declared.types.Entry.{Entry}
use Rattle.ymx_seats.specs.Views.{SeatView}

-- the seats have the numbers from, from + 1, ..
abbrev pub NumberedFrom : ℕ → List SeatView → Type 0
NumberedFrom from [] = Unit {0}
NumberedFrom from (s ∷ ss) = (s.number ≡ from) × NumberedFrom (from + 1) ss

-- each position is above the one before, and the first is at least from
abbrev pub RisesFrom : ℕ → List Entry → Type 0
RisesFrom from [] = Unit {0}
RisesFrom from (e ∷ es) = (from ≤ e.position) × RisesFrom (e.position + 1) es

-- what follows the last position
abbrev pub behind_all : ℕ → List Entry → ℕ
behind_all from [] = from
behind_all from (e ∷ es) = behind_all (e.position + 1) es

-- a seat's list: each entry names it, and the positions rise from its start
pub record IsOwn (s : SeatView) : Type 0 where
  pub named : All (λ e. e.seat ≡ s.number) s.entries
  pub rising : RisesFrom s.start s.entries

-- The seats are all that were numbered. Each entry stands in the transcript as often as in their lists:
-- however entries are weighed, both weigh the same.
pub record Tallies (seats : List SeatView) (entries : List Entry) : Type 0 where
  pub numbers : NumberedFrom 0 seats
  pub counted : (weight : Entry → ℕ) → sum_by weight entries ≡ sum_by (λ s. sum_by weight s.entries) seats
  pub own : All IsOwn seats
