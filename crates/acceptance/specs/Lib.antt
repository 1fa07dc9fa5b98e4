-- Image, marks, the rules of acceptance, the verdict, and what each of its numbers means.
pub mod Image
pub mod Rules
pub mod SuccessorRules
pub mod Verdict
pub mod Meaning
pub mod Grounds
