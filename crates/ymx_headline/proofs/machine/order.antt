-- Each stream has one number, below its opener's next, and the offered lists are exact.
pub mod Maps
pub mod Cores
pub mod Openers
pub mod Orders
pub mod Others
