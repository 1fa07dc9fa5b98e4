-- The laws of the general definitions, and tests that antt computes over a whole table.
pub mod Choice
pub mod First
pub mod Searches
pub mod Concat
pub mod Bytes
pub mod Lists
pub mod Table
pub mod Match
