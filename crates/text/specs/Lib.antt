-- Texts, and numbers as digits in them.
pub mod Text
pub mod Digits
