-- The names of a list as bytes, one behind the other. Assumes nothing.
pub mod Steps
pub mod Sizes
pub mod Lists
