-- The laws of the index. Assumes nothing.
pub mod Arcs
pub mod Buckets
pub mod Keeping
pub mod Seeking
pub mod Entering
