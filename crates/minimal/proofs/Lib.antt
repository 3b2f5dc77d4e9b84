-- Demand 3 on the table. Assumes nothing.
pub mod Counting
pub mod Places
pub mod Book
pub mod Carried
pub mod Renumbering
pub mod Matching
pub mod Theorems
