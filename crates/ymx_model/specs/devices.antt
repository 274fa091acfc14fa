-- Devices that bytes come from and go to, and how they fail.
pub mod Devices
pub mod Memories
