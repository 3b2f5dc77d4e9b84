-- What the arrays say in which rows are chained. Assumes nothing.
pub mod Chains
pub mod Orders
