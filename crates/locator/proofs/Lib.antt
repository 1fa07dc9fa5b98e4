-- What the proofs of the code cite: the tests of the addresses, and the pass.
pub mod Order
pub mod Passes
pub mod Answers
