-- What every change comes to, and that every row is reached that it may need. Assumes nothing.
pub mod Changes
pub mod Reached
