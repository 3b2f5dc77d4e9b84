-- The proofs that the tests of the code are the rules of 01. Assumes nothing.
pub mod Heights
pub mod Writes
pub mod Counting
pub mod Ranges
