-- The one statement over the table of examples. Assumes nothing.
pub mod Examples
