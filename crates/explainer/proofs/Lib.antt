-- How long a line gets; what the check's answer and what is decoded at a start tell.
pub mod Answers
pub mod Decoding
pub mod Lengths
