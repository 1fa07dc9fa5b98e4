pub mod File
pub mod FileEffects
pub mod CodeEffects
