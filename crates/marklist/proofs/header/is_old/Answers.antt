-- The byte behind four digits of the reset.
use native.Mathlib.Omega.{arith}
use Rattle.lists.specs.MarkList as spec
use Rattle.marklist.proofs.HeaderLaws.{few_digits}
use Rattle.marklist.proofs.header.is_old.Goals as goal

pub overflow_add-count : goal.overflow_add-count
overflow_add-count c =
    omega (arith, c.length_digits_shown-count.ensures, few_digits c.args.text.now)

pub returns : goal.returns
unfolding spec.is_old
returns c = rw (c.byte_at.ensures, c.length_digits_shown-count.ensures)
