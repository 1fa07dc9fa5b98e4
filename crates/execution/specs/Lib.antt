-- States as bytes, runs, and the guarantee about them.
pub mod StateBytes
pub mod Run
pub mod RunBytes
pub mod RunGrounds
pub mod Guarantee
pub mod CallDepth
