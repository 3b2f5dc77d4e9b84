-- What the functions say that make rows. Assumes nothing.
pub mod Copies
pub mod Rows
pub mod Growing
