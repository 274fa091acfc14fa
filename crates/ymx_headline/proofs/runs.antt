-- Steps one after another, and what holds of whole runs.
pub mod Steps
pub mod Runs
pub mod QuietRuns
