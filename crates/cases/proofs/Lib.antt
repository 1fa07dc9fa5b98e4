-- The theorem over the table.
pub mod Returning
pub mod ProvedSet
