-- What the functions that test the rules say of each other. Assumes nothing.
pub mod Demands
pub mod Counted
