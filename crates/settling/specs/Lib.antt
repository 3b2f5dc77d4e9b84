-- What the functions say that settle a change. Assumes nothing.
pub mod Settled
