-- The laws of settling: a part of a tidy table, the swept table, and what a change comes to. Assumes nothing.
pub mod Parts
pub mod Swept
pub mod Sweeping
pub mod Settling
