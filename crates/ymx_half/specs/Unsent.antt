-- One direction of a stream at its writer: what is unsent, and whether the end went out (flow control).
use Rattle.std.specs.Prelude.{ℕ, ◌≡◌, ◌≤◌, Bool, false}
use Rattle.ymx_machine.specs.shared.Limits.{first_credit}
use Rattle.ymx_ring.specs.Ring.{Contents}
use Rattle.ymx_model.specs.session.Records.{Writer}

-- what a contract sees of the credit and of the unsent bytes
abbrev pub writer_with : ℕ → Contents → (finished fin_sent : Bool) → Writer
writer_with credit unsent finished fin_sent = record { credit = credit; unsent = unsent.items; finished = finished; fin_sent = fin_sent }

-- Until the half is finished there is room for the first credit, and the end has not gone out.
pub record KeepsUnsent (unsent : Contents) (finished fin_sent : Bool) : Type 0 where
  pub room : finished ≡ false → first_credit ≤ unsent.capacity
  pub end_stays : finished ≡ false → fin_sent ≡ false
