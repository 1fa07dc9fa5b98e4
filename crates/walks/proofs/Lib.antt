-- How a walk begins, calls, reads its locals and ends.
pub mod PlainFacts
pub mod Locals
