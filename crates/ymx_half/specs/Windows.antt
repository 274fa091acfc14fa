-- The window of one direction of a stream at its reader: what is unread, granted and owed (flow control).
use Rattle.std.specs.Prelude.{ℕ, ◌≡◌, ◌+◌, ◌≤◌, length, Bool, false}
use Rattle.ymx_machine.specs.shared.Limits.{greatest_number}
use Rattle.ymx_ring.specs.Ring.{Contents}
use Rattle.ymx_credit.specs.Debts.{Owing}
use Rattle.ymx_model.specs.session.Records.{Reader}

-- what a contract sees of the unread bytes, of the number of bytes granted and of the debt
abbrev pub reader_with : Contents → ℕ → Owing → Bool → Reader
reader_with unread granted debt ended = record { unread = unread.items; granted = granted; owed = debt.owed; ended = ended }

-- No byte is beyond the window. Until the end has arrived each byte of it is unread, granted or owed, and there is room
-- for all of them; after the end unread bytes may have been dropped. A window is below 2^32.
pub record KeepsWindow (unread : Contents) (granted : ℕ) (debt : Owing) (ended : Bool) : Type 0 where
  pub within : length unread.items + granted + debt.owed ≤ debt.window
  pub balanced : ended ≡ false → length unread.items + granted + debt.owed ≡ debt.window
  pub room : ended ≡ false → unread.capacity ≡ debt.window
  pub limit : debt.window ≤ greatest_number
