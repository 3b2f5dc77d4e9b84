-- The laws of reaching: arrays that mark rows, how the marks spread, and how much leads to a row. Assumes nothing.
pub mod Marking
pub mod Spreading
pub mod Leading
