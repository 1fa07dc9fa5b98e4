-- The laws that the proofs of this crate share.
pub mod PutLaws
pub mod AnswerLaws
