-- How many words there are from a row. Assumes nothing.
pub mod Ahead
pub mod Counts
