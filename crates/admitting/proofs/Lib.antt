-- What it means for a call that its first tests pass, or refuse it. Assumes nothing.
pub mod Admitting
