-- The definitions, in reading order.
-- What callers are promised, and nothing else.
pub mod Promise
-- What machine and session share on purpose.
pub mod shared
-- One stream of the queue machine.
pub mod stream
-- The queue machine: it reads the two folders above, and no frames.
pub mod machine
