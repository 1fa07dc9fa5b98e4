-- The laws that the proofs of the functions share.
pub mod Pieces
pub mod RowLaws
pub mod Printing
