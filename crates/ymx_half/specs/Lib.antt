pub mod Windows
pub mod Unsent
pub mod Directions
pub mod Stages
pub mod Frames
pub mod Ends
pub mod Passing
pub mod Through
