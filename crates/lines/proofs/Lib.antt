-- What is proved of the lines, and of the program's steps. Assumes nothing.
mod Headed
mod Choices
mod Answered
mod Following
pub mod Stages
mod Kept
mod Places
pub mod Sessions
pub mod Ends
pub mod Tight
pub mod Listing
