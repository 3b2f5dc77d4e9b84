-- What add, remove and clear come to. Assumes nothing.
mod Outcomes
