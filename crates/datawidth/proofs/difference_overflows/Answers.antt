-- The signed numbers' difference, against the range.
use mathlib.Core.Path.{refl, ap, ◌∙◌}
use Rattle.semantics.specs.Addressing.{bits}
use Rattle.anywidth.specs.AnyWidth.{is_outside}
use Rattle.types.proofs.Flags.{as_bit}
use Rattle.datawidth.proofs.difference_overflows.Goals as goal

pub returns : goal.returns
returns c =
    c.is_outside.ensures
    ∙ ap (is_outside (bits c.args.short)) (rw (
      c.complement.ensures.0,
      c.signed.ensures.0,
      c.signed-2.ensures.0,
      c.from.ensures,
      as_bit c.args.carry,
    ) refl)
