-- The limits of a session: each number in one place (flow control, stream identifiers, ping).
use Rattle.std.specs.Prelude.{ℕ}

-- the credit that every stream starts with, in bytes, whatever the reader's window is: the narrowest window
abbrev pub first_credit : ℕ
first_credit = 262144

-- the widest window that a session has, in bytes (this project's own)
abbrev pub widest_window : ℕ
widest_window = 16777216

-- the longest payload of a Data frame that is sent, in bytes (this project's own)
abbrev pub data_limit : ℕ
data_limit = 16384

-- at most so many streams wait to be accepted
abbrev pub most_offered : ℕ
most_offered = 256

-- at most so many own streams are neither acknowledged, reset nor given up
abbrev pub most_unacknowledged : ℕ
most_unacknowledged = 256

-- at most so many records are there
abbrev pub most_records : ℕ
most_records = 1024

-- at most so many answers are unsent
abbrev pub most_answers : ℕ
most_answers = 1024

-- at most so many own pings are not collected
abbrev pub most_pings : ℕ
most_pings = 16

-- from this id on none is opened: with 32 bits there are two numbers more
abbrev pub first_exhausted : ℕ
first_exhausted = 4294967294

-- the greatest number of 32 bits: no credit, and no count of streams refused for lack of memory, is greater
abbrev pub greatest_number : ℕ
greatest_number = 4294967295
