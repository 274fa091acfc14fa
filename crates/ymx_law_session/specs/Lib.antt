pub mod Chunks
pub mod Limits
pub mod Refusals
pub mod Reaped
pub mod Offers
pub mod Fields
