-- The table of rows: how a row is read, the walk of a word, the words and lists, the seven rules. Assumes nothing.
pub mod Table
pub mod Walk
pub mod Words
pub mod Rules
pub mod Tidy
pub mod Reach
pub mod Growth
pub mod Skips
pub mod Arcs
