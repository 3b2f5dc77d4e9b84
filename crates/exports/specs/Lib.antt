-- What the functions of include/book.h return. Assumes nothing.
pub mod Packed
