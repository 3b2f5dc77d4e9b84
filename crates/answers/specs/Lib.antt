-- The answers of the calls. Assumes nothing.
pub mod Replies
