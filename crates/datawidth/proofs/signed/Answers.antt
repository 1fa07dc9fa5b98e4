-- The definition's remainder, which lies below the size.
use native.Mathlib.Omega.{arith}
use Rattle.datawidth.proofs.signed.Goals as goal

pub returns : goal.returns
returns c = (rw (← c.half.ensures.0) c.low.ensures.0, c.low.ensures.1, omega arith)
