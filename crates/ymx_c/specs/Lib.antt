pub mod Answers
pub mod Handed
pub mod NewAnswers
pub mod Readiness
pub mod Handles
