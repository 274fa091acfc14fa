-- What is fed in pieces is what is fed at once: bytes, headers and payloads follow each other,
-- and the frames of a text do what their heads and pieces do.
pub mod Chunks
pub mod Pieces
pub mod Frames
pub mod Ample
