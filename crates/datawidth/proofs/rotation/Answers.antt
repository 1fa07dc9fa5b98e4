-- The count's remainder by 8 or by 16, below 16 either way.
use native.Mathlib.Omega.{arith}
use mathlib.Core.Path.{refl}
use Rattle.datawidth.proofs.rotation.Goals as goal

pub returns-then-short : goal.returns-then-short
returns-then-short c = rw c.if-short.true (refl, omega arith)

pub returns-else-short : goal.returns-else-short
returns-else-short c = rw c.if-short.false (refl, omega arith)
