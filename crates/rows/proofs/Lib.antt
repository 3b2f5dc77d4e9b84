-- The laws of the table, for every layer above: nobody above looks into a row. Assumes nothing.
pub mod Facts
pub mod Cells
pub mod Rules
pub mod Walk
pub mod Heights
pub mod Words
pub mod Reach
pub mod Books
pub mod Stepping
pub mod Zeros
pub mod Growth
pub mod Skipping
