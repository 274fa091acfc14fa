-- One stream of the queue machine: two lanes of bytes, a few marks, and what a call does to them.
pub mod Lanes
pub mod Streams
pub mod StreamRules
