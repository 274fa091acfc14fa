-- The definitions, in reading order.
-- One session by itself.
pub mod session
-- Two sessions joined by pipes.
pub mod world
-- Devices, of which no other folder speaks.
pub mod devices
