-- Two histories, as one run.
pub mod Joints
pub mod Told
