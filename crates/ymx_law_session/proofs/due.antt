-- What is due is exact: something is due exactly where an emission gives a byte.
pub mod Goes
pub mod Ready
pub mod Total
pub mod Turns
