-- The theorems about the definitions, and the laws that they share.
pub mod Status
pub mod Memory
pub mod Effects
pub mod Step
pub mod OpenCalls
pub mod StatusBits
pub mod ClearedBytes
