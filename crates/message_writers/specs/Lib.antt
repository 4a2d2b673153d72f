pub mod Writes
pub mod Parts
