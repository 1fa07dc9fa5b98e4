-- Each field by its place.
use Rattle.lists.specs.MarkList as spec
use Prim.Native.Nat.{ℕ, ◌≤◌}
use mathlib.Core.Path.{◌≡◌}
use mathlib.Core.List.{List}
use native.Mathlib.Omega.{arith}
use Rattle.marklist.proofs.HeaderLaws.{few_digits, power_small}
use Rattle.marklist.proofs.header.header_shown.Goals as goal

few : (text : List ℕ) (count : ℕ) → count ≡ spec.length_digits_shown text → count ≤ spec.digits_of_length
few text count e = rw e (few_digits text)

pub number-length-requires : goal.number-length-requires
number-length-requires c = (
  omega (arith, few c.args.text.now c.length_digits_shown-count.result c.length_digits_shown-count.ensures),
  omega
      arith,
  power_small c.length_digits_shown-count.result
      (few c.args.text.now c.length_digits_shown-count.result c.length_digits_shown-count.ensures),
)

pub overflow_add-count : goal.overflow_add-count
overflow_add-count c = omega (
  arith,
  few c.args.text.now c.length_digits_shown-count.result
      c.length_digits_shown-count.ensures,
)

pub reset_at-reset-requires : goal.reset_at-reset-requires
reset_at-reset-requires c = (
  omega (arith, few c.args.text.now c.length_digits_shown-count.result c.length_digits_shown-count.ensures),
  c.number-base.ensures.1,
)

pub returns : goal.returns
unfolding spec.header_shown
returns c =
    rw (
      c.reset_at-reset.ensures,
      c.is_old.ensures,
      c.number-base.ensures.0,
      c.number-length.ensures.0,
      c.length_digits_shown-count.ensures,
    )
