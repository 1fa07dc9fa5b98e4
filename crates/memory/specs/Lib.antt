pub mod Reads
pub mod Listed
