mod Exports
mod Handing
mod Lending
pub mod Purged
