-- The queue machine by itself.
pub mod arrivals
pub mod faces
pub mod lanes
pub mod order
pub mod RunStates
