pub mod Loops
pub mod Silence
pub mod Sockets
