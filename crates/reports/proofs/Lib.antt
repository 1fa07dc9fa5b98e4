-- The theorems about the definitions, and the laws that they share.
pub mod PrintedPage
pub mod PageReading
pub mod PrintedAnswers
pub mod Locate
pub mod LocateGrounds
pub mod Explanation
