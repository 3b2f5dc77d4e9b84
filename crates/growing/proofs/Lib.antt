-- The laws of making a row, and of growing step by step. Assumes nothing.
pub mod Entering
pub mod Making
pub mod Growing
pub mod Targets
