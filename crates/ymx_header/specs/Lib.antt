pub mod Headers
pub mod Faults
pub mod Frames
