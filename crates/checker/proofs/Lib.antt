-- The laws that the proofs of the functions share.
pub mod Clear
pub mod Owes
pub mod Steps
pub mod Packing
pub mod Counts
