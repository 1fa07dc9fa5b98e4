-- The first line is asked first; then the lines end with the text.
use native.Mathlib.Omega.{arith}
use Rattle.lists.specs.MarkList.{digits_by}
use Rattle.marklist.proofs.Reading.{headed, no_header, list_by_end}
use Rattle.marklist.proofs.reader.is_list.Goals as goal

pub returns-then-not-is_header : goal.returns-then-not-is_header
returns-then-not-is_header c =
    let other = c.if-not-is_header.true in
    no_header (digits_by c.args.old) c.args.h c.args.text.now
    (rw c.is_header.ensures at other)

pub lines_end-requires : goal.lines_end-requires
lines_end-requires c =
    let args = c.args in
    let shown = c.if-not-is_header.false in
    let known = headed (digits_by args.old) args.h args.text.now
    (rw c.is_header.ensures at shown) in (
      rw c.header_size.ensures known.inside,
      omega (arith, known.few, c.first_address.ensures.1),
    )

pub returns : goal.returns
returns c =
    let args = c.args in
    let shown = c.if-not-is_header.false in
    list_by_end (digits_by args.old) args.h args.text.now c.lines_end.result
    (rw c.is_header.ensures at shown)
    c.lines_end.ensures.0
    (rw (← c.header_size.ensures, ← c.first_address.ensures.0) c.lines_end.ensures.1)
