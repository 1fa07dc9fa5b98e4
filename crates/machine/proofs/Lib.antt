-- What the proofs of this crate share.
pub mod Calling
pub mod Committed
pub mod Fetching
pub mod Operating
pub mod Stepping
pub mod Finishing
