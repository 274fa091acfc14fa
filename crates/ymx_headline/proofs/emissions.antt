-- An emission is no move of the machine: a frame begins, and its bytes go out one by one.
pub mod Begun
pub mod Emits
pub mod SessionFrames
pub mod Rejections
pub mod PingFrames
