-- The laws of plain sets, and the theorem that no automaton has fewer states than they need. Assumes nothing.
pub mod Membership
pub mod Sets
pub mod Both
pub mod Residuals
pub mod Cut
pub mod Below
pub mod Loops
pub mod Pigeons
pub mod Distinct
pub mod States
pub mod Automata
pub mod Served
pub mod Machine
pub mod Fewest
