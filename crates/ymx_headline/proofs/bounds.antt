-- Nothing sticks: a world that is not quiet goes on, and the frames to quiet are bounded by its load.
pub mod Progress
pub mod Loads
pub mod LoadArrivals
pub mod LoadBytes
pub mod Bound
pub mod OneAnswer
pub mod Potential
pub mod Driving
