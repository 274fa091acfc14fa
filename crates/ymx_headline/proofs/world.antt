-- What is under way between two sessions.
pub mod Frames
pub mod Emitted
pub mod Fed
pub mod Called
pub mod OneText
pub mod Worlds
pub mod Quiet
