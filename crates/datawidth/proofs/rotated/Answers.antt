-- By the width; what passes it comes back from below.
use mathlib.Core.Path.{refl}
use Rattle.datawidth.proofs.rotated.Goals as goal

pub returns-then-short : goal.returns-then-short
returns-then-short c = rw (← c.rotation.ensures.0, ← c.shifted-moved.ensures.0, c.if-short.true) refl

pub returns : goal.returns
returns c = rw (← c.rotation.ensures.0, ← c.shifted-moved.ensures.0, c.if-short.false) refl
