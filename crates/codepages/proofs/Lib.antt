-- The laws about the packed pages that others cite.
pub mod Unpacked
