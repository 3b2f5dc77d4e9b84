-- The examples that 01 marks P, as one table, and the one statement that they hold. Assumes nothing.
pub mod Text
pub mod Script
pub mod Table
