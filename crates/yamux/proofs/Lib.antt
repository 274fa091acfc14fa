pub mod Calls
pub mod PumpEnds
