-- The queue machine: streams by number, a few marks of each side, and no frames (this project's own).
use Rattle.std.specs.Prelude.{ℕ, ◌&&◌, List, Bool, [], false, map, not, count_by}
use Rattle.ymx_machine.specs.stream.Lanes.{Mark, is_here}
use Rattle.ymx_machine.specs.stream.Streams.{Stream, flip}
use Rattle.ymx_machine.specs.shared.Phases.{is_live, is_recorded}
use Rattle.ymx_machine.specs.stream.Lanes.Mark.{Unsaid}

-- how far an own ping has come: under way, at the other side, its answer back
pub data PingPlace : Type 0 where
  Asked : PingPlace
  There : PingPlace
  Back : PingPlace

-- One side: its receive window, its next stream number, the streams that wait to be accepted, its go
-- away, its next ping number, its pings not collected, whether its input has ended, whether it is closed.
pub record SideState : Type 0 where
  pub window : ℕ
  pub next : ℕ
  pub offered : List ℕ
  pub away : Mark
  pub next_ping : ℕ
  pub pings : List (ℕ × PingPlace)
  pub lost : Bool
  pub closed : Bool

-- The machine as one side sees it: the streams by number, its own side and the other, and whether the
-- direction that it writes and the one that it reads were stopped.
pub record Machine : Type 0 where
  pub streams : List (ℕ × Stream)
  pub me : SideState
  pub you : SideState
  pub outbound_stopped : Bool
  pub inbound_stopped : Bool

abbrev pub new_side : (window first : ℕ) → SideState
new_side window first = record {
  window = window;
  next = first;
  offered = [];
  away = Unsaid;
  next_ping = 0;
  pings = [];
  lost = false;
  closed = false;
}

-- the empty machine, as the side of the first window and number sees it
abbrev pub new_machine : (window first your_window your_first : ℕ) → Machine
new_machine window first your_window your_first = record {
  streams = [];
  me = new_side window first;
  you = new_side your_window your_first;
  outbound_stopped = false;
  inbound_stopped = false;
}

abbrev pub flip_entry : (ℕ × Stream) → ℕ × Stream
flip_entry p = (p.0, flip p.1)

-- the same machine as the other side sees it
abbrev pub mirror_machine : Machine → Machine
mirror_machine m = record {
  streams = map flip_entry m.streams;
  me = m.you;
  you = m.me;
  outbound_stopped = m.inbound_stopped;
  inbound_stopped = m.outbound_stopped;
}

-- own streams that are live and whose acknowledgement has not arrived
abbrev pub unacknowledged : Machine → ℕ
unacknowledged m = count_by (λ p. p.1.own && is_live p.1.me && not (is_here p.1.ack)) m.streams

-- streams of which this side keeps a record
abbrev pub recorded : Machine → ℕ
recorded m = count_by (λ p. is_recorded p.1.me) m.streams

-- what the other side sent still arrives here
abbrev pub hears : Machine → Bool
hears m = not m.inbound_stopped && not m.me.lost && not m.me.closed
