-- The byte behind four digits.
use Rattle.lists.specs.Routines.{has_old_lines}
use Rattle.marklist.proofs.routines.has_old_lines.Goals as goal

pub returns : goal.returns
unfolding has_old_lines
returns c = rw c.byte_at.ensures
