-- The theorems about the definitions, and the laws that they share.
pub mod CodeMap
pub mod Decode
pub mod BankEnds
