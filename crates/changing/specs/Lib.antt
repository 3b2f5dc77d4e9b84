-- What the functions say that change one list. Assumes nothing.
pub mod Changing
