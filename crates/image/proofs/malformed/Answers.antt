-- The choices, put together, are the table that is compared with the definition.
use Rattle.image.proofs.Form.{chosen_formed}
use native.Mathlib.Omega.{arith}
use Rattle.image.proofs.malformed.Goals as goal

pub returns : goal.returns
returns c =
    rw (
      c.choose-4.ensures,
      c.choose-3.ensures,
      c.choose-by_bit_7.ensures,
      c.choose-by_kind.ensures,
      c.choose-2.ensures,
      c.choose.ensures,
      c.mark_kind-kind.ensures.0,
    ) (chosen_formed c.args.mark (omega arith))
