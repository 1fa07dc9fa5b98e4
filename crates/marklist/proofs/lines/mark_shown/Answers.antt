-- Each exit has passed the tests of a line in their order.
use mathlib.Core.Path.{◌≡◌, refl, sym, ap, ◌∙◌}
use mathlib.Core.Bool.{Bool, true, false, ◌&&◌}
use mathlib.Core.List.{List}
use Prim.Native.Nat.{ℕ, ◌^◌, ◌-◌, ◌≤◌, ◌<◌}
use native.Mathlib.Omega.{arith}
use lib.ListN.{length, take, drop}
use Rattle.prelude.specs.Choice.{pick}
use Rattle.text.specs.Digits.{digits}
use Rattle.text.specs.Text.{starts_with}
use Rattle.acceptance.specs.Image.{is_formed}
use Rattle.lists.specs.MarkList.{digits_by, fields, fields_mark, mark_shown}
use Rattle.text.proofs.DigitLaws.{length_digits}
use Rattle.text.proofs.Text.{starts_long}
use Rattle.text.proofs.Pages.{part_whole}
use Rattle.marklist.proofs.LineLaws.{too_high, other_address, by_fields}
use Rattle.marklist.proofs.lines.mark_shown.Goals as goal

-- the address is in front
module _ (count address : ℕ) (text : List ℕ) (got : Bool) (e : got ≡ starts_with (digits 16 count address) text)
    (shows : got ≡ true) where
  begins : starts_with (digits 16 count address) text ≡ true
  begins = rw e at shows

  long : count ≤ length text
  long =
      omega (
        arith,
        length_digits 16 count address,
        starts_long (digits 16 count address) text begins,
      )

  -- and the fields behind it, as far as they are those of a mark
  module _ (old : Bool) (mark span : ℕ) (line : List ℕ) (headed : Bool) (counted : count ≡ digits_by old)
      (shown : mark ≡ fields_mark (take (length text - count) (drop count text))) (fields-so : line ≡ fields mark)
      (tested : headed ≡ starts_with line (take (length text - count) (drop count text)))
      (spanned : span ≡ 16 ^ digits_by old) (low : address < span) where
    by-mark : (same : Bool) → headed ≡ same → (b : Bool) → (same && is_formed mark) ≡ b
        → pick b mark 0 ≡ mark_shown (digits_by old) address text
    by-mark same e b e' =
        let shown' = rw (part_whole count text) at shown in
        let tested' = rw (fields-so, part_whole count text) at tested in
        let inside : address < 16 ^ count = omega (arith, low, spanned ∙ ap (16 ^◌) (sym counted)) in
        rw (← counted) (sym (by_fields count address text mark shown' inside begins b (rw (sym tested' ∙ e) e')))

pub returns-then-span_by-address : goal.returns-then-span_by-address
returns-then-span_by-address c =
    too_high (digits_by c.args.old) c.args.address c.args.text.now
    (rw c.span_by.ensures.0 at c.if-span_by-address.true)

pub returns-then-not-shows_digits : goal.returns-then-not-shows_digits
returns-then-not-shows_digits c =
    let other = c.if-not-shows_digits.true in
    other_address (digits_by c.args.old) c.args.address c.args.text.now
    (rw (c.shows_digits.ensures, c.digits_by-count.ensures) at other)

pub slice_bounds-rest-count : goal.slice_bounds-rest-count
slice_bounds-rest-count c = omega (
  arith,
  long c.digits_by-count.result c.args.address c.args.text.now c.shows_digits.result c.shows_digits.ensures
      c.if-not-shows_digits.false,
)

pub returns-then-not-starts_with : goal.returns-then-not-starts_with
returns-then-not-starts_with c = by-mark c.digits_by-count.result c.args.address c.args.text.now c.shows_digits.result
    c.shows_digits.ensures
    c.if-not-shows_digits.false
    c.args.old c.fields_mark-mark.result c.span_by.result c.fields.result c.starts_with.result
    c.digits_by-count.ensures c.fields_mark-mark.ensures c.fields.ensures c.starts_with.ensures
    c.span_by.ensures.0 c.if-span_by-address.false
    false c.if-not-starts_with.true false refl

pub returns-then-is_formed : goal.returns-then-is_formed
returns-then-is_formed c =
    by-mark c.digits_by-count.result c.args.address c.args.text.now c.shows_digits.result c.shows_digits.ensures
    c.if-not-shows_digits.false
    c.args.old c.fields_mark-mark.result c.span_by.result c.fields.result c.starts_with.result
    c.digits_by-count.ensures c.fields_mark-mark.ensures c.fields.ensures c.starts_with.ensures
    c.span_by.ensures.0 c.if-span_by-address.false
    true c.if-not-starts_with.false true
    (sym c.is_formed.ensures ∙ c.if-is_formed.true)

pub returns-else-is_formed : goal.returns-else-is_formed
returns-else-is_formed c =
    by-mark c.digits_by-count.result c.args.address c.args.text.now c.shows_digits.result c.shows_digits.ensures
    c.if-not-shows_digits.false
    c.args.old c.fields_mark-mark.result c.span_by.result c.fields.result c.starts_with.result
    c.digits_by-count.ensures c.fields_mark-mark.ensures c.fields.ensures c.starts_with.ensures
    c.span_by.ensures.0 c.if-span_by-address.false
    true c.if-not-starts_with.false false
    (sym c.is_formed.ensures ∙ c.if-is_formed.false)

pub slice_bounds-rest-start : goal.slice_bounds-rest-start
slice_bounds-rest-start c = slice_bounds-rest-count c
