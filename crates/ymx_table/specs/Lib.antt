pub mod Unsent
pub mod Kept
pub mod Standing
pub mod Others
pub mod Flags
pub mod Turns
pub mod Changes
pub mod Listing
