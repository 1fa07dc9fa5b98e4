-- That the three conditions hold, and what the requests claim.
pub mod Calls
pub mod Demands
pub mod Requests
pub mod Locating
pub mod Building
pub mod Widening
pub mod Explaining
