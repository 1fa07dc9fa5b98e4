-- The laws that the proofs of the functions share.
pub mod RunInvariant
pub mod Admitted
