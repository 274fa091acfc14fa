pub mod Places
pub mod PendingPings
pub mod FreeNumbers
