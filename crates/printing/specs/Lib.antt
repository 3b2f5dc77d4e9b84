-- What is printed, as bytes. Assumes nothing.
pub mod Decimal
pub mod Printed
