-- What the promises are worth, over all calls. Assumes nothing.
pub mod Walks
pub mod Outcomes
pub mod Meeting
pub mod Nothing
pub mod Tight
pub mod AnyCalls
pub mod Fewest
pub mod Room
pub mod WriteLoad
