pub mod Room
pub mod Said
