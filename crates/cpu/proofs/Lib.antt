-- What the proofs of this crate share.
pub mod Files
pub mod Masks
pub mod Numbers
pub mod Steps
