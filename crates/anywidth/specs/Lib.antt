-- Numbers of n bits, for any n.
pub mod AnyWidth
