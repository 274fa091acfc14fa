-- How much a call asks for at most. Each bound is one of a function, and not of each call of it.
use Rattle.std.specs.Prelude.{ℕ}

-- the bytes of a new ring: the widest window that a session has (flow control)
abbrev pub widest_ring : ℕ
widest_ring = 16777216

-- the bytes that one write adds: the greatest credit (flow control)
abbrev pub most_written : ℕ
most_written = 4294967295

-- the items of a list, a queue or a set that has room for all from the start: the streams that a session has, or its answers
abbrev pub most_items : ℕ
most_items = 1024

-- the bytes of lines for which there is room from the start: four for each byte of a read of 65,536
abbrev pub most_text : ℕ
most_text = 262144

-- the bytes of a buffer: what a script's fill writes at most, and no other buffer is larger
abbrev pub most_zeros : ℕ
most_zeros = 1000000

-- the entries of one call: the end of a stream's last half, and that the stream is given up
abbrev pub most_entries : ℕ
most_entries = 2

-- the numbers of a set: there are no more of 32 bits
abbrev pub most_numbers : ℕ
most_numbers = 4294967296
