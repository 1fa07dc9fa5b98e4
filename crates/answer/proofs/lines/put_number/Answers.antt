-- The digits and the closing byte are in front.
use Rattle.answer.proofs.PutLaws.{number_put}
use Rattle.lists.proofs.MarkList.{decimal_most}
use lib.ListN.{length}
use Prim.Native.Nat.{◌+◌, ◌≤◌}
use native.Mathlib.Omega.{arith}
use Rattle.answer.proofs.lines.put_number.Goals as goal

pub put_field-requires : goal.put_field-requires
put_field-requires c =
    let room : c.digit_count-count.result + 1 ≤ length c.args.page.now = omega (
      arith,
      c.digit_count-count.ensures,
      decimal_most c.args.n,
      c.requires,
    ) in (omega arith, omega arith, room)

pub overflow_add-result : goal.overflow_add-result
overflow_add-result c =
    omega (
      arith,
      c.digit_count-count.ensures,
      decimal_most
          c.args.n,
    )

pub returns : goal.returns
returns c =
    number_put c.args.n c.args.close c.digit_count-count.result
    c.args.page.now c.put_field.new.page
    c.digit_count-count.ensures c.put_field.ensures
