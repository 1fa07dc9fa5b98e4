-- The laws that the proofs of the functions share.
pub mod Flags
pub mod Stops
pub mod TestResults
