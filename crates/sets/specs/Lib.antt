-- Plain sets of words, the sets that are left of them after some letters, and the automata of source document 002.
-- Nothing here knows of rows. Assumes nothing.
pub mod Below
pub mod Sets
pub mod Residuals
pub mod Automata
pub mod Cut
