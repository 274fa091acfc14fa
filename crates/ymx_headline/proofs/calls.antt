-- Each call, and each stop and end of a pipe, is a step of the machine with the same answer.
pub mod Ends
pub mod Alone
pub mod StreamCalls
pub mod Opens
pub mod Places
pub mod Accepts
pub mod PingCalls
pub mod SessionCalls
