-- Two ends of one stream, and the frames between them.
pub mod Flight
pub mod Directions
pub mod Links
pub mod Phases
pub mod Marks
pub mod Heard
pub mod Arrives
pub mod Comes
pub mod Sends
pub mod Calls
pub mod Nothing
pub mod Rules
pub mod Still
pub mod OneStream
pub mod Faults
pub mod Happenings
pub mod Worlds
