-- The tests that the calls begin with. Assumes nothing.
pub mod Admissions
