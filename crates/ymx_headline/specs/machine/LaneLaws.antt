-- The law of a lane (this project's own, after flow control).
use Rattle.std.specs.Prelude.{ℕ, ◌≡◌, ◌≤◌, [], length, true, false}
use Rattle.ymx_machine.specs.stream.Lanes.{Lane, lane_total}
use Rattle.ymx_machine.specs.shared.Phases.{Phase, is_up, takes}
use Rattle.ymx_machine.specs.stream.Streams.{Stream}

-- Bytes on their way and here, credit and owed are at most the reader's window, and just as much until
-- an end of the stream is reset, refused or given up: the writer's end, the reader's. So what is unread
-- fits the window, and it is there only at an end that takes what comes.
pub record IsBounded (window : ℕ) (writer reader : Phase) (l : Lane) : Type 0 where
  pub at_most : lane_total l ≤ window
  pub exact : is_up writer ≡ true → is_up reader ≡ true → lane_total l ≡ window
  pub unread : length l.here ≤ window
  pub dropped : takes reader ≡ false → l.here ≡ []

-- both lanes of a stream: my window, your window
pub record ObeysWindows (mine yours : ℕ) (s : Stream) : Type 0 where
  pub outbound : IsBounded yours s.me s.you s.outbound
  pub inbound : IsBounded mine s.you s.me s.inbound
