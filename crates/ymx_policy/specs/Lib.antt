pub mod Laws
pub mod Machine
pub mod Networks
pub mod Past
pub mod Plans
