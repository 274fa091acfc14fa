-- What was got is a beginning of what was written, over every run.
pub mod Pasts
pub mod LaneFaces
pub mod StreamFaces
pub mod Effects
pub mod MachineFaces
pub mod RunFaces
