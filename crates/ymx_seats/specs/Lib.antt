pub mod Journals
pub mod Views
pub mod EntryRooms
pub mod Tallies
pub mod Transcripts
