-- The remainder by as many addresses as the digits tell apart.
use mathlib.Core.Path.{ap}
use Prim.Native.Nat.{◌%◌}
use native.Mathlib.Nat.{mod-lt}
use native.Mathlib.Omega.{arith}
use Rattle.marklist.proofs.lines.first_address.Goals as goal

pub returns : goal.returns
returns c =
    let base = c.args.base in
    let span = c.span_by in (
      ap (base %◌) span.ensures.0,
      omega (arith, mod-lt base span.ensures.1, span.ensures.2),
    )
