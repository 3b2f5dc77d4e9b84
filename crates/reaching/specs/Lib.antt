-- What the functions say that mark the rows reached. Assumes nothing.
pub mod Marks
pub mod Leads
