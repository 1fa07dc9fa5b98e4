-- By the test.
use Rattle.lists.specs.MarkList as spec
use borrow.Author.Tests.{eq-eqb, ne_eqb}
use native.Mathlib.Omega.{arith}
use Rattle.marklist.proofs.lines.bit_shown.Goals as goal

pub returns-then-byte-eq48 : goal.returns-then-byte-eq48
unfolding spec.bit_shown
returns-then-byte-eq48 c = (rw (eq-eqb c.args.byte 0x30 c.if-byte-eq48.true), omega arith)

pub returns-else-byte-eq48 : goal.returns-else-byte-eq48
unfolding spec.bit_shown
returns-else-byte-eq48 c = (rw (ne_eqb c.args.byte 0x30 c.if-byte-eq48.false), omega arith)
