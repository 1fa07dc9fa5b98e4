-- The theorems about the definitions, and the laws that they share.
pub mod StateBytes
pub mod Run
pub mod Keeps
pub mod RunBytes
pub mod RunGrounds
pub mod Guarantee
pub mod CallDepth
