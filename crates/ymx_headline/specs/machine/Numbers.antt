-- Stream numbers, and the lists of offered streams (stream identifiers).
use Rattle.std.specs.Prelude.{ℕ, ◌%◌, ◌<◌, ◌≡◌, ◌≢◌, List, [], ◌∷◌, Bool, true, false, ◌||◌, ◌==◌, Option, None, Some}
use Rattle.ymx_machine.specs.stream.Streams.{Stream}
use Rattle.ymx_machine.specs.shared.Phases.{is_offered}
use Rattle.ymx_machine.specs.shared.Lists.{look, Distinct}
use Rattle.ymx_machine.specs.machine.Machines.{Machine}

-- each number stands once
abbrev pub NumbersOnce : List (ℕ × Stream) → Type 0
NumbersOnce streams = Distinct streams

-- A number is below its opener's next number, and odd or even as that is: my next number, your next
-- number, whether this side opened it.
pub record HasNumber (next_me next_you id : ℕ) (own : Bool) : Type 0 where
  pub mine : own ≡ true → (id < next_me) × (id % 2 ≡ next_me % 2)
  pub yours : own ≡ false → (id < next_you) × (id % 2 ≡ next_you % 2)

abbrev pub HasNumberAt : (next_me next_you id : ℕ) → Option Stream → Type 0
HasNumberAt next_me next_you id None = Unit {0}
HasNumberAt next_me next_you id (Some s) = HasNumber next_me next_you id s.own

abbrev pub is_in : ℕ → List ℕ → Bool
is_in id [] = false
is_in id (x ∷ xs) = x == id || is_in id xs

-- these numbers pass a test, and each stands once
abbrev pub AllOnce : (ℕ → Bool) → List ℕ → Type 0
AllOnce test [] = Unit {0}
AllOnce test (x ∷ xs) = (test x ≡ true) × (is_in x xs ≡ false) × AllOnce test xs

-- whether an end is offered: this side's, the other side's
abbrev pub offered_here : Option Stream → Bool
offered_here None = false
offered_here (Some s) = is_offered s.me

abbrev pub offered_there : Option Stream → Bool
offered_there None = false
offered_there (Some s) = is_offered s.you

-- these are the numbers of the offered ends, each once
pub record IsOfferedList (test : Option Stream → Bool) (streams : List (ℕ × Stream)) (ids : List ℕ) : Type 0 where
  pub once : AllOnce (λ id. test (look id streams)) ids
  pub every : (id : ℕ) → test (look id streams) ≡ true → is_in id ids ≡ true

-- in a machine: the numbers and both lists
pub record HasOrder (m : Machine) : Type 0 where
  pub once : NumbersOnce m.streams
  pub numbered : (id : ℕ) → HasNumberAt m.me.next m.you.next id (look id m.streams)
  pub offered_me : IsOfferedList offered_here m.streams m.me.offered
  pub offered_you : IsOfferedList offered_there m.streams m.you.offered

-- of the two next numbers one is odd and one is even
abbrev pub HasBothParities : Machine → Type 0
HasBothParities m = m.me.next % 2 ≢ m.you.next % 2
