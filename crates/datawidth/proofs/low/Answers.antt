-- The remainder by the width's size, and so below it.
use native.Mathlib.Omega.{arith}
use mathlib.Core.Path.{refl}
use Rattle.datawidth.proofs.low.Goals as goal

pub returns-then-short : goal.returns-then-short
returns-then-short c = rw c.if-short.true (refl, omega arith)

pub returns : goal.returns
returns c = rw c.if-short.false (refl, omega arith)
