pub mod Acts
pub mod Reached
pub mod Bounds
pub mod Progress
pub mod Played
pub mod Driven
