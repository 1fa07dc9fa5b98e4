-- 2 to the power of 8 or of 16, whichever the width is.
use native.Mathlib.Omega.{arith}
use mathlib.Core.Path.{refl}
use Rattle.datawidth.proofs.size.Goals as goal

pub returns-then-short : goal.returns-then-short
returns-then-short c = rw c.if-short.true (refl, omega arith, omega arith)

pub returns-else-short : goal.returns-else-short
returns-else-short c = rw c.if-short.false (refl, omega arith, omega arith)
