pub mod Ends
pub mod Pumps
pub mod Turns
pub mod Pumping
pub mod Settings
pub mod Streams
pub mod Told
