-- Numbers stored low byte first.
pub mod Fields
