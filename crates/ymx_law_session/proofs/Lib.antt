pub mod pieces
pub mod limits
pub mod due
pub mod nothing_else
pub mod given_up
pub mod offers
