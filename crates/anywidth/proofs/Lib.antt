-- The facts of numbers of n bits, and integers as differences.
pub mod Differences
pub mod AnyWidth
