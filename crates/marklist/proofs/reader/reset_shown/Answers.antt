-- The mark at the reset address is shown behind the lines of the addresses before it.
use Rattle.lists.proofs.ListAnswers.{length_marks_of}
use native.Mathlib.Omega.{arith}
use Rattle.lists.specs.MarkList.{digits_by}
use Rattle.text.proofs.Pages.{part_whole}
use Rattle.marklist.proofs.Reading.{list_headed, below_base, past_end, at_offset}
use Rattle.marklist.proofs.reader.reset_shown.Goals as goal

pub returns-then-h : goal.returns-then-h
returns-then-h c =
    let args = c.args in
    below_base (digits_by args.old) args.h args.text.now c.if-h.true

pub returns-then-h-before : goal.returns-then-h-before
returns-then-h-before c =
    let args = c.args in
    let count = digits_by args.old in
    past_end count args.h args.text.now c.if-h.false
    (rw (length_marks_of count args.h args.text.now) c.if-h-before.true)

pub lines_end-place-requires : goal.lines_end-place-requires
lines_end-place-requires c = (
  rw c.header_size.ensures (list_headed (digits_by c.args.old) c.args.h c.args.text.now c.requires).inside,
  omega (
    arith,
    (list_headed (digits_by c.args.old) c.args.h c.args.text.now c.requires).few,
    c.if-h-before.false,
    c.first_address-first.ensures.1,
  ),
)

pub overflow_add-first : goal.overflow_add-first
overflow_add-first c =
    omega (
      arith,
      (list_headed (digits_by c.args.old) c.args.h c.args.text.now c.requires).few,
      c.if-h-before.false,
      c.first_address-first.ensures.1,
    )

pub returns : goal.returns
returns c =
    let end = c.lines_end-place in
    let args = c.args in
    at_offset (digits_by args.old) args.h args.text.now c.first_address-first.result end.result
    c.mark_shown.result c.if-h.false c.if-h-before.false c.first_address-first.ensures.0
    (rw (← c.header_size.ensures) end.ensures.1)
    (rw (part_whole end.result args.text.now) at c.mark_shown.ensures)
