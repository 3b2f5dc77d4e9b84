-- The laws of the sixteen lists and of a change to one of them, that nth gives back what was added, how far a name gets, the lowest refusal,
-- and when room refuses. Assumes nothing.
pub mod Lists
pub mod Ranks
pub mod Prefixes
pub mod Refusals
pub mod Names
pub mod Combined
pub mod Changes
pub mod Room
pub mod Loads
