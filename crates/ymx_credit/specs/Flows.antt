-- The bytes of one direction of a stream, by where they are (flow control).
use Rattle.std.specs.Prelude.{◌≡◌, ℕ, ◌+◌, ◌-◌, ◌≤◌, List, [], ◌∷◌}

-- `left`: what the writer may still write. `way`: written and not arrived. `here`: arrived and not
-- read. `owed`: read and not announced. `announced`: announced to the writer, and under way to it.
pub record Flow : Type 0 where
  pub window : ℕ
  pub left : ℕ
  pub way : ℕ
  pub here : ℕ
  pub owed : ℕ
  pub announced : ℕ

-- nothing was written, and what the writer may not write yet is owed to it
abbrev pub new_flow : (window left : ℕ) → Flow
new_flow window left = record { window = window; left = left; way = 0; here = 0; owed = window - left; announced = 0 }

-- all that makes up the window
abbrev pub flow_total : Flow → ℕ
flow_total f = f.left + f.way + f.here + f.owed + f.announced

-- each byte of the window is at one place, and none is beyond it
abbrev pub IsBalanced : Flow → Type 0
IsBalanced f = flow_total f ≡ f.window

-- what may happen to a number of bytes
pub data Step : Type 0 where
  -- the writer writes them
  Spend : (bytes : ℕ) → Step
  -- they reach the reader
  Arrive : (bytes : ℕ) → Step
  -- the reader reads them
  Read : (bytes : ℕ) → Step
  -- the reader announces so many of the bytes that it owes, or all of them
  Announce : (bytes : ℕ) → Step
  -- the announcement reaches the writer
  Grant : (bytes : ℕ) → Step

-- a step takes no more than there is where it takes from
abbrev pub IsPossible : Step → Flow → Type 0
IsPossible (Spend n) f = n ≤ f.left
IsPossible (Arrive n) f = n ≤ f.way
IsPossible (Read n) f = n ≤ f.here
IsPossible (Announce n) f = n ≤ f.owed
IsPossible (Grant n) f = n ≤ f.announced

abbrev pub flow_after : Step → Flow → Flow
flow_after (Spend n) f = record f { left = f.left - n; way = f.way + n }
flow_after (Arrive n) f = record f { way = f.way - n; here = f.here + n }
flow_after (Read n) f = record f { here = f.here - n; owed = f.owed + n }
flow_after (Announce n) f = record f { owed = f.owed - n; announced = f.announced + n }
flow_after (Grant n) f = record f { announced = f.announced - n; left = f.left + n }

-- each step is possible when its turn comes
abbrev pub ArePossible : List Step → Flow → Type 0
ArePossible [] f = Unit {0}
ArePossible (s ∷ ss) f = IsPossible s f × ArePossible ss (flow_after s f)

abbrev pub flow_after_all : List Step → Flow → Flow
flow_after_all [] f = f
flow_after_all (s ∷ ss) f = flow_after_all ss (flow_after s f)
