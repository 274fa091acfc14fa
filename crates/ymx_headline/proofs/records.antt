-- What a session does to each of its streams.
pub mod Calls
pub mod Frames
pub mod Comes
pub mod Ends
