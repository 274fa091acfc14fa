pub mod Plays
pub mod Words
