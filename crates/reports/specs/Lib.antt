-- What is told of an image: its printed page, why it is refused, where addresses lie.
pub mod PrintedPage
pub mod PageReading
pub mod Locate
pub mod LocateGrounds
pub mod Explanation
