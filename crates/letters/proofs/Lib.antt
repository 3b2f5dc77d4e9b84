-- What the crates above go by: the laws of letters, and nothing else of a letter's number; those of words, their order, sets of letters, the
-- lines of a list, and tests; and that a name comes back in its own bytes, and a list as it was loaded or written. Then what only the proofs
-- here share. Assumes nothing.
pub mod Tests
pub mod Below
pub mod Laws
pub mod Words
pub mod Ordering
pub mod LetterSet
pub mod Lines
pub mod NameBytes
pub mod Loaded
mod Ranges
mod Compare
