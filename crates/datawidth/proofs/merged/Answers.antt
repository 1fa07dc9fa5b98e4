-- At 8 bits the definition's sum; at 16 a register, of 16 bits, has nothing above the data.
use native.Mathlib.Omega.{arith}
use mathlib.Core.Path.{refl}
use Rattle.datawidth.proofs.merged.Goals as goal

pub returns-then-short : goal.returns-then-short
returns-then-short c = rw c.if-short.true refl

pub returns : goal.returns
returns c = rw c.if-short.false (omega arith)
