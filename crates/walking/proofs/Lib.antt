-- What the end of a walk over bytes tells of their word. Assumes nothing.
pub mod Ways
