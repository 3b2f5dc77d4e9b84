-- The laws of chained rows. Assumes nothing.
pub mod Chains
pub mod Levels
