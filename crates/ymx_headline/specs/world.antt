-- What is under way between two sessions.
pub mod Texts
