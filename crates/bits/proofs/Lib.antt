pub mod Shifts
pub mod Turn
pub mod Part
pub mod Held
