-- That a table of tasks does what the operations do.
pub mod Tables
