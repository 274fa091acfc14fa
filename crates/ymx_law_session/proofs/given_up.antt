-- A record that was given up goes as soon as nothing of it is left to send.
pub mod Reaped
pub mod ReapedFrames
