-- One session by itself: what it remembers, its calls, what a frame does that comes, which frame goes.
pub mod Events
pub mod Records
pub mod FramesDue
pub mod Parts
pub mod Pings
pub mod GoAway
pub mod Tables
pub mod Sessions
pub mod Calls
pub mod Arrivals
pub mod Feeds
pub mod Emissions
pub mod Histories
