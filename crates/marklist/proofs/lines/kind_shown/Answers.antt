-- N and S are told by themselves, and any other letter counts as L.
use Rattle.lists.specs.MarkList as spec
use borrow.Author.Tests.{eq-eqb, ne_eqb}
use native.Mathlib.Omega.{arith}
use Rattle.marklist.proofs.lines.kind_shown.Goals as goal

pub returns-then-byte-eq78 : goal.returns-then-byte-eq78
unfolding spec.kind_shown
returns-then-byte-eq78 c = (rw (eq-eqb c.args.byte 0x4E c.if-byte-eq78.true), omega arith)

pub returns-then-byte-eq83 : goal.returns-then-byte-eq83
unfolding spec.kind_shown
returns-then-byte-eq83 c = (
  rw (ne_eqb c.args.byte 0x4E c.if-byte-eq78.false, eq-eqb c.args.byte 0x53 c.if-byte-eq83.true),
  omega arith,
)

pub returns-else-byte-eq83 : goal.returns-else-byte-eq83
unfolding spec.kind_shown
returns-else-byte-eq83 c = (
  rw (ne_eqb c.args.byte 0x4E c.if-byte-eq78.false, ne_eqb c.args.byte 0x53 c.if-byte-eq83.false),
  omega arith,
)
