-- One stream: its two ends, the frames under way between them, and the machine's stream (flags, flow control).
use Rattle.std.specs.Prelude.{ℕ, ◌≤◌, ◌≡◌, ◌⊎◌, List, [], Bool, true, false, ◌||◌, if◌then◌else◌}
use Rattle.ymx_machine.specs.stream.Lanes.{Mark, is_said, lane_total}
use Rattle.ymx_machine.specs.stream.Lanes.Mark.{Here}
use Rattle.ymx_machine.specs.shared.Phases.{Phase, is_up, is_unborn, is_early}
use Rattle.ymx_machine.specs.stream.Streams.{Stream, flip}
use Rattle.ymx_machine.specs.shared.Phases.Phase.{Unborn}
use Rattle.ymx_model.specs.session.Records.{End, Writer, new_end}
use Rattle.ymx_model.specs.session.Parts.{Part}
use Rattle.ymx_headline.specs.stream.Flight.{loads, gifts, holds_syn, holds_ack, holds_fin, holds_rst, Ordered}
use Rattle.ymx_headline.specs.stream.Directions.{mark_if, fin_waits, to_announce, LaneHolds, LaneEnds}

-- an end whose reset is due or under way is over, and sends nothing else; after the reset, nothing
pub record Stops (p : Phase) (w : Writer) (syn ack rst : Bool) (fs : List Part) : Type 0 where
  pub down : (rst || holds_rst fs) ≡ true → (is_up p ≡ false) × (w.unsent ≡ []) × (fin_waits w ≡ false) × (ack ≡ false)
  pub once : holds_rst fs ≡ true → (rst ≡ false) × (syn ≡ false)

-- The opener's SYN is due or under way exactly while the other end is unborn, and it goes first. Only
-- the opener has one, and it is never unborn or offered.
pub record Born (own : Bool) (p q : Phase) (syn : Bool) (fs : List Part) : Type 0 where
  pub opener : own ≡ true → is_unborn q ≡ (syn || holds_syn fs)
  pub first : syn ≡ true → fs ≡ []
  pub acceptor : own ≡ false → (syn ≡ false) × (holds_syn fs ≡ false)
  pub own_late : own ≡ true → is_early p ≡ false

-- an end that isn't born has nothing, and sent nothing
pub record Sleeps (window : ℕ) (e : End) (fs : List Part) : Type 0 where
  pub new : e.phase ≡ Unborn → e ≡ new_end window Unborn false false
  pub idle : e.phase ≡ Unborn → fs ≡ []

-- The acknowledgement, which the end that did not open the stream says. `own`: whether this end opened
-- it; `p`, `ack`, `fs`: its phase, whether its ACK is due, what it has under way; `acked`: whether the
-- other end has got it.
pub record Acks (own acked : Bool) (p : Phase) (ack : Bool) (fs : List Part) (m : Mark) : Type 0 where
  pub mark : own ≡ false → m ≡ (if acked then Here else mark_if (ack || holds_ack fs))
  pub once : own ≡ false → acked ≡ true → (ack || holds_ack fs) ≡ false
  pub fresh : ack ≡ true → holds_ack fs ≡ false
  pub none : own ≡ true → (ack || holds_ack fs) ≡ false
  pub early : is_early p ≡ true → ((ack || holds_ack fs) ≡ false) × (acked ≡ false)

-- One direction: what the end x, of window `wx`, says to the end y, of window `wy`. `xy` and `yx`: what
-- is under way from x to y, and back; `s`: the machine's stream as the side of x sees it.
pub record Direction (wx wy : ℕ) (x y : End) (xy yx : List Part) (s : Stream) : Type 0 where
  pub phase : s.me ≡ x.phase
  pub holds : LaneHolds wy x.phase y.phase x.writer (loads xy) (gifts yx) (to_announce wy y.phase y.marks.syn y.marks.with_data y.marks.ack) y.reader s.outbound
  pub finishes : LaneEnds x.phase y.phase x.writer (loads xy) (holds_fin xy) y.reader s.outbound.fin
  pub reset : s.rst_outbound ≡ mark_if (x.marks.rst || holds_rst xy)
  pub stops : Stops x.phase x.writer x.marks.syn x.marks.ack x.marks.rst xy
  pub ordered : Ordered xy
  pub born : Born s.own x.phase y.phase x.marks.syn xy
  pub sleeps : Sleeps wx x xy
  pub acks : Acks s.own y.marks.acked x.phase x.marks.ack xy s.ack

-- What holds until a reset has arrived: both directions, each as its own side sees it.
pub record Alive (wx wy : ℕ) (x y : End) (xy yx : List Part) (s : Stream) : Type 0 where
  pub outbound : Direction wx wy x y xy yx s
  pub inbound : Direction wy wx y x yx xy (flip s)

-- an end that has nothing left to send but perhaps a reset
pub record Spent (e : End) : Type 0 where
  pub down : is_up e.phase ≡ false
  pub syn : e.marks.syn ≡ false
  pub ack : e.marks.ack ≡ false
  pub unsent : e.writer.unsent ≡ []
  pub fin : fin_waits e.writer ≡ false

-- What holds once the other side's reset has arrived at this side: nothing of that side is under way,
-- and what this side has under way means nothing any more.
pub record Heard (wx wy : ℕ) (x y : End) (xy yx : List Part) (s : Stream) : Type 0 where
  pub me : s.me ≡ x.phase
  pub you : s.you ≡ y.phase
  pub gone : yx ≡ []
  pub spent_x : Spent x
  pub spent_y : Spent y
  pub silent : y.marks.rst ≡ false
  pub no_syn : holds_syn xy ≡ false
  pub no_ack : s.own ≡ true → holds_ack xy ≡ false
  pub way_outbound : s.outbound.way ≡ []
  pub way_inbound : s.inbound.way ≡ []
  pub here_out : s.outbound.here ≡ []
  pub here_inn : s.inbound.here ≡ []
  pub fin_outbound : is_said s.outbound.fin ≡ false
  pub fin_inbound : is_said s.inbound.fin ≡ false
  pub ack : is_said s.ack ≡ false
  pub rst_outbound : is_said s.rst_outbound ≡ false
  pub rst_inbound : s.rst_inbound ≡ Here
  pub bound_out : lane_total s.outbound ≤ wy
  pub bound_inn : lane_total s.inbound ≤ wx

-- two ends, the frames under way between them, and the machine's stream are one stream
abbrev pub Related : (wx wy : ℕ) → End → End → List Part → List Part → Stream → Type 0
Related wx wy x y xy yx s = Alive wx wy x y xy yx s ⊎ Heard wx wy x y xy yx s ⊎ Heard wy wx y x yx xy (flip s)
