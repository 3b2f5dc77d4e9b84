-- What the proofs here share. Assumes nothing.
mod Pairing
