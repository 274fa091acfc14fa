-- What the reader of one direction of a stream owes the peer (flow control).
use Rattle.std.specs.Prelude.{ℕ}

-- the window, and of it the bytes that were read and not yet announced to the peer
pub record Owing : Type 0 where
  pub window : ℕ
  pub owed : ℕ
