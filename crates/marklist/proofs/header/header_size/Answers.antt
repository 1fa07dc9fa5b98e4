-- A first line has eleven bytes beside the digits of length and reset.
use Prim.Native.Nat.{◌+◌}
use mathlib.Core.Path.{◌∙◌, sym, ap₂}
use native.Mathlib.Omega.{arith}
use Rattle.lists.specs.MarkList.{digits_by}
use Rattle.lists.proofs.MarkList.{decimal_most, length_header}
use Rattle.marklist.proofs.HeaderLaws.{few_by}
use Rattle.marklist.proofs.header.header_size.Goals as goal

pub overflow_add-result : goal.overflow_add-result
overflow_add-result c = omega (arith, c.digits_by.ensures, few_by c.args.old)

pub overflow_add-result-2 : goal.overflow_add-result-2
overflow_add-result-2 c =
    let args = c.args in
    omega (
      arith,
      c.digits_by.ensures,
      few_by args.old,
      c.digit_count.ensures,
      decimal_most args.h.length,
    )

pub returns : goal.returns
returns c =
    let args = c.args in
    ap₂ (λ reset size. 11 + reset + size) c.digits_by.ensures c.digit_count.ensures
    ∙ sym (length_header (digits_by args.old) args.h)
