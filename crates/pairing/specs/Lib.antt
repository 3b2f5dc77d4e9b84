-- What the functions say that combine two rows. Assumes nothing.
pub mod Pairs
