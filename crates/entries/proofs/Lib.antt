-- The laws that the proofs of this crate and of others share.
pub mod Words
