-- What users of the crate read off its results.
pub mod Views
