-- Document 01's 'Proved set': what a row says, and the table.
pub mod Rows
pub mod ProvedSet
