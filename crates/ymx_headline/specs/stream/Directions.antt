-- One direction of one stream: the machine's lane, told by its two ends and by what is under way (flow control).
use Rattle.std.specs.Prelude.{ℕ, ◌+◌, ◌-◌, ◌≤◌, ◌≡◌, List, [], ◌++◌, length, Bool, true, false, not, ◌&&◌, ◌||◌, if◌then◌else◌}
use Rattle.ymx_machine.specs.stream.Lanes.{Mark, Lane, is_unsaid, is_said, is_here, lane_total}
use Rattle.ymx_machine.specs.shared.Limits.{first_credit}
use Rattle.ymx_machine.specs.stream.Lanes.Mark.{Unsaid, Said}
use Rattle.ymx_machine.specs.shared.Phases.{Phase, is_up, takes, is_early}
use Rattle.ymx_model.specs.session.Records.{Writer, Reader}

-- under way exactly if so
abbrev pub mark_if : Bool → Mark
mark_if true = Said
mark_if false = Unsaid

-- finished, and the frame with FIN hasn't gone out
abbrev pub fin_waits : Writer → Bool
fin_waits w = w.finished && not w.fin_sent

-- What the SYN and the ACK that an end has still to send will give back: the window beyond the first
-- credit. A SYN that carries data gives nothing back; an end not yet accepted has its ACK to send.
abbrev pub to_announce : (window : ℕ) → Phase → (syn with_data ack : Bool) → ℕ
to_announce window p syn with_data ack =
    (if syn && not with_data then window - first_credit else 0) + (if ack || is_early p then window - first_credit else 0)

-- Bytes and credit of the lane. `wp`, `rp`: the phases of the writing and the reading end. `fly`: the
-- payload under way. `due`: the credit under way back. `later`: what the reader's end has still to
-- announce on SYN or ACK. Credit is told by an end that is up; what is owed, by two.
pub record LaneHolds (window : ℕ) (wp rp : Phase) (w : Writer) (fly : List ℕ) (due later : ℕ) (r : Reader) (l : Lane) : Type 0 where
  pub way : l.way ≡ fly ++ w.unsent
  pub here : l.here ≡ r.unread
  pub cleared : takes rp ≡ false → r.unread ≡ []
  pub credit : is_up wp ≡ true → l.credit ≡ w.credit
  pub owed : is_up wp ≡ true → is_up rp ≡ true → l.owed ≡ r.owed + due
  pub gift : is_up wp ≡ true → due + later ≤ l.owed
  pub told : is_up rp ≡ true → later ≤ r.owed
  pub room : is_up rp ≡ true → (l.credit + length l.way) + due ≤ r.granted
  pub bound : lane_total l ≤ window
  pub whole : is_up wp ≡ true → is_up rp ≡ true → lane_total l ≡ window

-- The end mark of the lane. `coming`: a FIN is under way.
pub record LaneEnds (wp rp : Phase) (w : Writer) (fly : List ℕ) (coming : Bool) (r : Reader) (m : Mark) : Type 0 where
  pub said : is_said m ≡ (coming || fin_waits w)
  pub unsaid : is_up wp ≡ true → is_unsaid m ≡ not w.finished
  pub sent : w.fin_sent ≡ true → (w.finished ≡ true) × (w.unsent ≡ [])
  pub last : coming ≡ true → (w.unsent ≡ []) × (fin_waits w ≡ false)
  pub over : is_here m ≡ true → (fly ≡ []) × (w.unsent ≡ [])
  pub ended : is_up rp ≡ true → r.ended ≡ is_here m
