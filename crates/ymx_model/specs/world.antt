-- Two sessions joined by pipes: their steps, what is still to be sent, the frames under way.
pub mod Worlds
pub mod Load
pub mod UnderWay
