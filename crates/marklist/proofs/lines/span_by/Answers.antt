-- Four digits or six.
use mathlib.Core.Path.{refl}
use native.Mathlib.Omega.{arith}
use Rattle.marklist.proofs.lines.span_by.Goals as goal

pub returns-then-old : goal.returns-then-old
returns-then-old c = (rw c.if-old.true refl, omega arith, omega arith)

pub returns-else-old : goal.returns-else-old
returns-else-old c = (rw c.if-old.false refl, omega arith, omega arith)
