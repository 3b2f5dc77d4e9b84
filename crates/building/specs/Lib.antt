-- What the functions say that build the rows of a list. Assumes nothing.
pub mod Groups
pub mod Building
