-- What the proofs here share. Assumes nothing.
mod Grouping
mod Openings
mod Building
