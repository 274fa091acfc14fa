-- The queue machine: all streams, the rules of calls, what may arrive, and its runs. It knows no frames.
pub mod Machines
pub mod CallRules
pub mod FreeMoves
pub mod Runs
