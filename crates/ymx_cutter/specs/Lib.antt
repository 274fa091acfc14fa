pub mod Frames
pub mod Cuts
pub mod Gathered
pub mod Cutters
pub mod Views
pub mod Calls
pub mod Bytewise
