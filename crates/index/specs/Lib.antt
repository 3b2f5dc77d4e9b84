-- The buckets of rows, and the index that finds a row by its mark and targets. Assumes nothing.
pub mod Arcs
pub mod Buckets
pub mod Index
