-- What the types' own functions say.
pub mod Addresses
pub mod Answers
pub mod Kinds
pub mod Refusals
pub mod Status
pub mod Runs
