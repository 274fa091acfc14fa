-- All streams at once: the ends of both sides and what is under way, by number, beside the machine's streams (this project's own).
use Rattle.std.specs.Prelude.{ℕ, ◌≡◌, ◌≤◌, List, [], ◌∷◌, Bool, false, ◌==◌, if◌then◌else◌, Option, None, Some}
use Rattle.ymx_machine.specs.shared.Limits.{first_credit}
use Rattle.ymx_machine.specs.stream.Streams.{Stream}
use Rattle.ymx_machine.specs.shared.Phases.Phase.{Unborn}
use Rattle.ymx_model.specs.session.Records.{End, new_end}
use Rattle.ymx_model.specs.session.Parts.{Part}
use Rattle.ymx_headline.specs.stream.OneStream.{IsOneStream}

-- the parts of the stream i
abbrev pub parts_of_stream : ℕ → List (ℕ × Part) → List Part
parts_of_stream i [] = []
parts_of_stream i (p ∷ ps) = if p.0 == i then p.1 ∷ parts_of_stream i ps else parts_of_stream i ps

-- these parts, as parts of the stream j
abbrev pub tagged : ℕ → List Part → List (ℕ × Part)
tagged j [] = []
tagged j (f ∷ fs) = (j, f) ∷ tagged j fs

-- A side: its window, whether it is over (lost or closed: it sends and receives nothing more), its ends by number.
pub record StreamSide : Type 0 where
  pub window : ℕ
  pub over : Bool
  pub ends : ℕ → End

-- Two sides; what is under way from a to b and from b to a, oldest first; whether a direction has
-- stopped, so that it delivers nothing more.
pub record StreamWorld : Type 0 where
  pub a : StreamSide
  pub b : StreamSide
  pub ab : List (ℕ × Part)
  pub ba : List (ℕ × Part)
  pub ab_stopped : Bool
  pub ba_stopped : Bool

-- ---- the machine's streams

-- the stream of a number, as side a sees it
abbrev pub Streams : Type 0
Streams = ℕ → Option Stream

-- ---- what belongs together

-- a number that no open has given
pub record IsFresh (wx wy : ℕ) (x y : End) (xy yx : List Part) : Type 0 where
  pub mine : x ≡ new_end wx Unborn false false
  pub yours : y ≡ new_end wy Unborn false false
  pub none_outbound : xy ≡ []
  pub none_inbound : yx ≡ []

abbrev pub AreOne : (over_x over_y : Bool) (wx wy : ℕ) → End → End → List Part → List Part → Option Stream → Type 0
AreOne over_x over_y wx wy x y xy yx None = IsFresh wx wy x y xy yx
AreOne over_x over_y wx wy x y xy yx (Some s) = IsOneStream over_x over_y wx wy x y xy yx s

-- each number's ends and parts under way are the machine's stream of that number
pub record Refines (w : StreamWorld) (m : Streams) : Type 0 where
  pub a_window : first_credit ≤ w.a.window
  pub b_window : first_credit ≤ w.b.window
  pub streams : (i : ℕ) → AreOne w.a.over w.b.over w.a.window w.b.window (w.a.ends i) (w.b.ends i) (parts_of_stream i w.ab) (parts_of_stream i w.ba) (m i)
