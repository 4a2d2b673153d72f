pub mod Measured
pub mod MeasuredLaws
pub mod Repeated
