-- The laws that the listing's functions go by. Assumes nothing.
pub mod Behind
pub mod Sizing
pub mod Writing
pub mod Steps
pub mod Spelling
