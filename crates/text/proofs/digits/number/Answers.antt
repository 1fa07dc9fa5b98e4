use Rattle.std.proofs.Common.{arith, ◌∙◌, ◌+◌, ◌*◌, ◌-◌, ◌≤◌}
use lib.ListN.{drop}
use lib.Seq.{get_or-drop}
use Rattle.text.proofs.DigitLaws.{same_value}
use Rattle.text.proofs.Turns.{room_for_one, one_more_worked, all_worked, worked_small}
use Rattle.text.proofs.digits.number.Goals as goal

room : (c : goal.After-digit_value) →
    (c.loop-i.value + c.digit_value.result * c.loop-i.weight + 255 ≤ 255 * (c.loop-i.weight * c.args.radix))
    × (255 * (c.loop-i.weight * c.args.radix) ≤ 4_294_967_295)
room c =
    room_for_one c.digit_value.result c.requires.1 c.requires.2 c.loop-i-test.true c.loop-i.invariant (omega arith)

pub overflow_mul-value : goal.overflow_mul-value
overflow_mul-value c = omega (arith, room c)

pub overflow_add-value : goal.overflow_add-value
overflow_add-value c = omega (arith, room c)

pub overflow_mul-weight : goal.overflow_mul-weight
overflow_mul-weight c = omega (arith, room c)

pub loop-i-preserved : goal.loop-i-preserved
loop-i-preserved c =
    one_more_worked c.digit_value.result c.requires.1 c.requires.2 c.loop-i-test.true c.loop-i.invariant (omega arith)
    (rw (get_or-drop c.args.at c.args.text.now (c.loop-i.i - 1) 0, ← c.byte_at.ensures) c.digit_value.ensures)

pub returns : goal.returns
returns c =
    let args = c.args in (
      all_worked c.loop-i-test.false c.loop-i.invariant
          ∙ same_value args.radix args.count (drop args.at args.text.now),
      worked_small c.loop-i-test.false c.loop-i.invariant,
    )
