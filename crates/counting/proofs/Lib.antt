-- How many words of a row stand before a letter, and the filling of the array. Assumes nothing.
pub mod Ahead
pub mod Filling
