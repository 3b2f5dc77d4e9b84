-- What the C boundary is worth to a host. Assumes nothing.
pub mod Tight
