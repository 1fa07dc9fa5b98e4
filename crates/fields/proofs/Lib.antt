-- A number and its bytes are each other's inverse, and so are fields and their bytes; then what the loops and the
-- written-out reads come to.
pub mod Fields
pub mod Reading
pub mod FieldReading
pub mod Words
pub mod Writing
