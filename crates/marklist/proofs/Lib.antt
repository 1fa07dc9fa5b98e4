-- The laws that the proofs of this crate share.
pub mod HeaderLaws
pub mod LineLaws
pub mod Walks
pub mod Reading
pub mod RoutineLines
pub mod Writing
