-- What stands above the low bytes is taken away; nothing leaves 64 bits.
use Prim.Native.Nat.{◌*◌}
use Rattle.fields.proofs.Words.{low_bits_most, low_bits}
use native.Mathlib.Omega.{arith}
use Rattle.fields.proofs.low_bytes.Goals as goal

pub overflow_sub-result : goal.overflow_sub-result
overflow_sub-result c = low_bits_most c.args.value (8 * c.args.n) (omega arith)

pub returns : goal.returns
returns c = low_bits c.args.value c.args.n (omega arith)
