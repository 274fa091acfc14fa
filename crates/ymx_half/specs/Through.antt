-- Bytes that are written and go into a frame at once, where nothing is unsent (flow control).
use Rattle.std.specs.Prelude.{◌≡◌, ◌≤◌, ◌-◌, ℕ, List, [], length, false}
use Rattle.ymx_machine.specs.shared.Limits.{data_limit}
use Rattle.ymx_model.specs.session.Records.{End, Writer, writer_write, writer_send}

-- n bytes are written and go into a frame at once: only the credit is spent
abbrev pub writer_spend : ℕ → Writer → Writer
writer_spend n w = record w { credit = w.credit - n }

-- these bytes are written, and then a frame begins, which carries as many unsent bytes as one may
abbrev pub sent : List ℕ → End → End
sent bytes e = record e { writer = writer_send data_limit (writer_write bytes e.writer) }

-- The stream was not finished here, nothing of it is unsent, and its credit is enough for these bytes, which one frame
-- can carry.
pub record MaySend (bytes : List ℕ) (e : End) : Type 0 where
  pub unfinished : e.writer.finished ≡ false
  pub all_sent : e.writer.unsent ≡ []
  pub credit : length bytes ≤ e.writer.credit
  pub one_frame : length bytes ≤ data_limit
