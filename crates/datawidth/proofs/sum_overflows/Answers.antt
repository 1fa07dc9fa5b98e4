-- The signed numbers' sum, against the range.
use Rattle.types.proofs.Flags.{as_bit}
use Rattle.datawidth.proofs.sum_overflows.Goals as goal

pub returns : goal.returns
returns c =
    rw (
      ← c.signed.ensures.0,
      ← c.signed-2.ensures.0,
      ← as_bit c.args.carry,
      ← c.from.ensures,
    ) c.is_outside.ensures
