-- The laws of two lists taken as one. Assumes nothing.
mod Turns
pub mod Merging
