-- "The desk program": what a line asks for, what is said to it, what the program does step by step, and what is printed for a whole input.
-- Assumes nothing.
pub mod Requests
pub mod Promises
pub mod Steps
pub mod Sessions
pub mod Listing
