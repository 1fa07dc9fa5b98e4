-- The instruction set: operations, code map, decoding, and where control goes from an instruction.
pub mod Operations
pub mod Words
pub mod CodePages
pub mod CodeMap
pub mod Decode
pub mod Successors
pub mod BankEnds
