-- The theorems about the definitions, and the laws that they share.
pub mod MarkList
pub mod ListAnswers
pub mod RoundTrips
pub mod ListForm
pub mod RoutineList
pub mod Routines
pub mod LeastMarks
pub mod Mixtures
pub mod ListGrounds
