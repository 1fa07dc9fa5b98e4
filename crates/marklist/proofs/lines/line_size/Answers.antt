-- By the test of a start.
use native.Mathlib.Omega.{arith}
use Rattle.lists.specs.MarkList as spec
use Rattle.marklist.proofs.HeaderLaws.{few_by}
use Rattle.marklist.proofs.lines.line_size.Goals as goal

pub overflow_add-result : goal.overflow_add-result
overflow_add-result c = omega (arith, c.digits_by.ensures, few_by c.args.old)

pub returns-then-is_start : goal.returns-then-is_start
unfolding spec.line_size
returns-then-is_start c = rw (← c.is_start.ensures, c.if-is_start.true, c.digits_by.ensures)

pub returns-else-is_start : goal.returns-else-is_start
unfolding spec.line_size
returns-else-is_start c = rw (← c.is_start.ensures, c.if-is_start.false)
