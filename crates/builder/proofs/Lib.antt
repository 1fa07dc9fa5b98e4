-- The laws that the proofs of this crate share.
pub mod Putting
pub mod Worklist
pub mod Starts
pub mod Owing
pub mod Answering
