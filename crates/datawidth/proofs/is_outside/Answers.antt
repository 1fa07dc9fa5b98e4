-- The two ends of the signed range, one after the other.
use Rattle.semantics.specs.Addressing.{bits}
use Rattle.datawidth.proofs.Outside.{below_half, from_half}
use Rattle.datawidth.proofs.is_outside.Goals as goal

pub returns-then-v-half : goal.returns-then-v-half
returns-then-v-half c =
    below_half (bits c.args.short) c.args.v
    (rw (← c.half.ensures.0) c.if-v-half.true)

pub returns : goal.returns
returns c =
    rw (c.half-2.ensures.0, c.size.ensures.0)
    (from_half (bits c.args.short) c.args.v
    (rw (← c.half.ensures.0) c.if-v-half.false))
