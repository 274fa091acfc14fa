-- At rest, all that was written is there to be read.
pub mod Rests
pub mod Tales
pub mod Told
pub mod Places
pub mod Reads
pub mod Writes
pub mod RunArrivals
