-- The laws of texts, digits and pages, and of one turn of each loop over them.
pub mod Text
pub mod DigitLaws
pub mod Pages
pub mod Turns
