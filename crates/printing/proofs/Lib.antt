-- The laws of what is written to a buffer, and of a number's digits. Assumes nothing.
pub mod Buffers
pub mod Decimal
