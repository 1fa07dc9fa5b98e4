-- General definitions: they speak of no processor and of no paper.
pub mod Choice
pub mod First
pub mod Concat
pub mod Bytes
pub mod Lists
