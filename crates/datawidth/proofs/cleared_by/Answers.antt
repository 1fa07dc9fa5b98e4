-- The mask's complement, of the part that the width holds.
use mathlib.Core.Path.{refl}
use Rattle.datawidth.proofs.cleared_by.Goals as goal

pub returns : goal.returns
returns c = rw (← c.low.ensures.0, c.complement-kept.ensures.0) refl
