-- A bounded ring of bytes, as a contract sees it (this project's own).
use Rattle.std.specs.Prelude.{ℕ, ◌≤◌, List, length}
use Rattle.circular_buffer.specs.Buffer.{Buffer}

-- the bytes in the ring, the next to be taken first, and how many bytes the ring can hold
pub record Contents : Type 0 where
  pub items : List ℕ
  pub capacity : ℕ

-- the ring's bytes are those of its buffer, and so is its capacity
abbrev pub contents_of : Buffer ℕ → Contents
contents_of buffer = record { items = buffer.items; capacity = buffer.capacity }

-- the ring has no more bytes than it can hold
abbrev pub FitsCapacity : Contents → Type 0
FitsCapacity ring = length ring.items ≤ ring.capacity
