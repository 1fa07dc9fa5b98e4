-- The laws that the proofs of the functions share.
pub mod Layouts
pub mod Lengths
pub mod Operands
