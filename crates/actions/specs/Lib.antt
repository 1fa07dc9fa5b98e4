pub mod Tasks
pub mod ActionEffects
