-- N and Z of the part that the width holds are taken away and put anew.
use Rattle.std.proofs.Common.{◌∙◌}
use Rattle.semantics.specs.Addressing.{bits}
use Rattle.cpu.proofs.Numbers.{result_changed}
use Rattle.types.proofs.Flags.{as_bit}
use Rattle.cpu.proofs.flags.with_result.Goals as goal

pub returns : goal.returns
returns c =
    rw (
      c.from-negative.ensures ∙ as_bit _,
      c.from-zero.ensures ∙ as_bit _,
      c.from.ensures,
      c.half.ensures.0,
      c.low-result.ensures.0,
    )
    (let args = c.args in result_changed (bits args.short) args.v args.status)
