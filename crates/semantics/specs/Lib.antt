-- Memory, addressing, what each operation does, and one step.
pub mod Memory
pub mod Addressing
pub mod Arithmetic
pub mod Effects
pub mod Step
pub mod StatusBits
pub mod ClearedBytes
