-- The relation of a world and a machine: that it holds at first, that it looks the same from
-- both sides, and what of it follows: records counted, stillness.
pub mod Begins
pub mod Mirrors
pub mod Sides
pub mod Tables
pub mod Texts
pub mod Counts
pub mod Still
