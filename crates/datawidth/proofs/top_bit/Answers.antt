-- The sign bit's value where the flag is set.
use Rattle.datawidth.proofs.top_bit.Goals as goal

pub returns-then-flag : goal.returns-then-flag
returns-then-flag c = rw c.if-flag.true c.half.ensures
