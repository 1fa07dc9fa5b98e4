-- The theorems about the definitions, and the laws that they share.
pub mod Widths
pub mod SuccessorRules
pub mod Image
pub mod Verdict
pub mod Meaning
pub mod FirstGround
pub mod Grounds
