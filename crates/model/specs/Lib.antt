-- The calls on sixteen plain sets of names. Nothing here knows of rows. Assumes nothing.
pub mod Lists
pub mod Prefixes
pub mod Call
pub mod Refusals
pub mod Rules
pub mod Run
pub mod Changes
pub mod Room
