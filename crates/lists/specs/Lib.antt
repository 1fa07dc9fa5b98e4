-- Mark lists and routine lists: their form, reading, writing, and the least marks of a routine list.
pub mod MarkList
pub mod ListForm
pub mod Routines
pub mod Mixtures
pub mod ListGrounds
