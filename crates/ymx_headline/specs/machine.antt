-- The queue machine by itself.
pub mod LaneLaws
pub mod Runs
pub mod Faces
pub mod Arrivals
pub mod Numbers
pub mod Others
