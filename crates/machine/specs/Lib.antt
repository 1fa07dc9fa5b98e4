pub mod Fetches
pub mod StepResults
