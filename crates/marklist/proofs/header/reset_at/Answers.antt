-- Six digits are the address; four are one of the base's bank, and the sum fits.
use native.Mathlib.Omega.{arith}
use Rattle.marklist.proofs.header.reset_at.Goals as goal

pub number-requires : goal.number-requires
number-requires c = (omega (arith, c.requires.0), omega arith, omega arith)

pub returns-then-not-old : goal.returns-then-not-old
returns-then-not-old c =
    rw c.if-not-old.true c.number.ensures.0

pub number-requires-2 : goal.number-requires-2
number-requires-2 c = (omega (arith, c.requires.0), omega arith, omega arith)

pub overflow_mul-result : goal.overflow_mul-result
overflow_mul-result c = omega (arith, c.requires.1)

pub overflow_add-result : goal.overflow_add-result
overflow_add-result c = omega (arith, c.requires.1, c.number-2.ensures.1)

pub returns : goal.returns
returns c =
    rw (
      c.if-not-old.false,
      c.number-2.ensures.0,
    )
