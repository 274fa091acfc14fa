-- Two ends of one stream, and the frames between them.
pub mod Flight
pub mod Directions
pub mod Links
pub mod Arrivals
pub mod Answers
pub mod OneStream
pub mod StreamLaws
pub mod Worlds
