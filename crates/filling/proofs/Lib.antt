-- What load and combine come to. Assumes nothing.
mod Filling
mod Outcomes
