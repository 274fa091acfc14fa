-- What calls and frames leave alone: a refusal changes nothing, and other streams stay.
pub mod StreamCalls
pub mod Refusals
pub mod Others
pub mod Alone
pub mod OthersOut
