pub mod Spellings
pub mod Flags
pub mod Frames
