-- How far a walk over bytes gets. Assumes nothing.
pub mod Ways
