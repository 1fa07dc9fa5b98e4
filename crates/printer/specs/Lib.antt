-- What printing rows asks of an image.
pub mod Printable
