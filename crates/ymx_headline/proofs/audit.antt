-- Two histories, as one run.
pub mod Over
pub mod Events
pub mod Orders
pub mod OneRun
