pub mod Stages
pub mod Certified
pub mod Tunnels
pub mod Carried
pub mod Quiet
pub mod Callers
