pub mod Spelled
pub mod Only
pub mod Reading
pub mod Runs
pub mod Fold
