pub mod Cuts
pub mod Feeds
pub mod Reading
pub mod Ends
pub mod Rounds
pub mod ScriptRuns
