-- What the proofs here share. Assumes nothing.
mod Outcomes
