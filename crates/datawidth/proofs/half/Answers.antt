-- 2 to the power of 7 or of 15, one less than the bits of the width.
use native.Mathlib.Omega.{arith}
use mathlib.Core.Path.{refl}
use Rattle.datawidth.proofs.half.Goals as goal

pub returns-then-short : goal.returns-then-short
returns-then-short c = rw c.if-short.true (refl, omega arith)

pub returns-else-short : goal.returns-else-short
returns-else-short c = rw c.if-short.false (refl, omega arith)
