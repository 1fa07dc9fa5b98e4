-- Past the width means from its size on.
use mathlib.Core.Path.{refl}
use Rattle.datawidth.proofs.is_past.Goals as goal

pub returns : goal.returns
returns c = rw c.size.ensures.0 refl
