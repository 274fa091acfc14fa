-- A session keeps its limits, whatever happens: bounds of its records, lists and numbers,
-- by every call, frame, feed and emission, and so over every history.
pub mod Ends
pub mod Pings
pub mod Owns
pub mod Offers
pub mod Records
pub mod CallsKeep
pub mod FramesKeep
pub mod FeedsKeep
pub mod EmissionsKeep
pub mod HistoriesKeep
pub mod FieldsFit
