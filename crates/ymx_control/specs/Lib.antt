pub mod PendingPings
pub mod Numbers
