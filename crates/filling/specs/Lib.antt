-- What the functions say that fill an empty list. Assumes nothing.
pub mod Filling
