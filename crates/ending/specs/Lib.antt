-- The answer to a change that was settled. Assumes nothing.
pub mod Ending
