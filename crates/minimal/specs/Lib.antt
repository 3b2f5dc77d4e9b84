-- The automaton of a table, the place of each row in the order of the sets that are left, and renumberings. Assumes nothing.
pub mod Book
pub mod Places
pub mod Renumbered
