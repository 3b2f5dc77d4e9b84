-- What the calls promise, and calls one after the other, on a table and on sixteen plain sets. Assumes nothing.
pub mod Books
pub mod Walks
pub mod Promises
pub mod Histories
pub mod Again
