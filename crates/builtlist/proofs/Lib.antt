-- The laws that the proofs of this crate share, and the theorem of what is written.
pub mod Words
pub mod Lists
pub mod Written
