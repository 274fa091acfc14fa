-- What a session does to each of its streams.
pub mod Sides
