-- Three pairs make the number of six bytes, which 48 bits hold.
use Rattle.fields.proofs.Words.{six_at}
use native.Mathlib.Omega.{arith}
use Rattle.fields.proofs.six_bytes.Goals as goal

pub overflow_mul-low : goal.overflow_mul-low
overflow_mul-low c = omega (arith, c.pair-2.ensures.1)

pub overflow_add-low : goal.overflow_add-low
overflow_add-low c = omega (arith, c.pair-2.ensures.1, c.pair.ensures.1)

pub overflow_mul-result : goal.overflow_mul-result
overflow_mul-result c = omega (arith, c.pair-3.ensures.1)

pub overflow_add-result : goal.overflow_add-result
overflow_add-result c = omega (arith, c.pair-2.ensures.1, c.pair.ensures.1, c.pair-3.ensures.1)

pub returns : goal.returns
returns c =
    six_at c.args.bytes.now c.args.at c.pair.result c.pair-2.result
    c.pair-3.result c.requires c.pair.ensures.0 c.pair-2.ensures.0
    c.pair-3.ensures.0
