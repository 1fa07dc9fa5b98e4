-- A refusal leaves the page; nothing is written before the last test, and then the first line and behind it the lines.
use Rattle.std.specs.Prelude.{Ok}
use mathlib.Core.Bool.{false}
use mathlib.Core.List.{List}
use Prim.Native.Nat.{ℕ, ◌+◌, ◌≤◌}
use native.Mathlib.Omega.{arith}
use Rattle.std.proofs.lemmas.Result.{err_from_is_err_and}
use mathlib.Core.Path.{◌≡◌, refl, sym, ◌∙◌}
use lib.ListN.{length}
use Rattle.types.specs.Addresses.{image_limit}
use Rattle.lists.specs.MarkList.{new_digits}
use Rattle.types.specs.Refusals.{first_refusal}
use Rattle.acceptance.specs.Verdict.{marks_tests}
use Rattle.acceptance.proofs.Image.{right_length}
use Rattle.lists.proofs.MarkList.{lines_most}
use Rattle.types.proofs.TestResults.{shown, ends}
use Rattle.text.proofs.Pages.{part_room}
use Rattle.marklist.proofs.HeaderLaws.{small_header}
use Rattle.marklist.proofs.Writing.{refused, short_page, is_written, first_line, list_size, header_front}
use Rattle.marklist.proofs.Writing.{list_put}
use Rattle.marklist.proofs.writer.write_list.Goals as goal

few_marks : (marks : List ℕ) (base reset : ℕ)
    → Ok tt ≡ first_refusal (marks_tests (length marks) marks base reset) → length marks ≤ image_limit
few_marks marks base reset passed =
    (right_length (length marks) (length marks) (shown (marks_tests (length marks) marks base reset)
    (sym passed)).0).few

pub returns-in_err-test_marks : goal.returns-in_err-test_marks
returns-in_err-test_marks c =
    let args = c.args in
    let stays =
    ends (marks_tests (length args.marks.now) args.marks.now args.base args.reset) _
    c.in_err-test_marks.ensures refl in
    let said = refused args.marks.now args.base args.reset args.page.now stays in
    let p = err_from_is_err_and c.from_residual.result c.from_residual.ensures.1 in
    record { answer = rw (p.1, p.2) said.0; page = said.1 }

pub overflow_cast-length : goal.overflow_cast-length
overflow_cast-length c = omega (
  arith,
  few_marks c.args.marks.now c.args.base c.args.reset
      c.in_ok-test_marks.ensures,
)

pub lines_size-requires : goal.lines_size-requires
lines_size-requires c = omega (
  arith,
  few_marks c.args.marks.now c.args.base c.args.reset
      c.in_ok-test_marks.ensures,
)

pub overflow_add-size : goal.overflow_add-size
overflow_add-size c =
    let args = c.args in
    omega (
      arith,
      few_marks c.args.marks.now c.args.base c.args.reset c.in_ok-test_marks.ensures,
      c.header_size-first.ensures,
      small_header false (first_line args.marks.now args.base args.reset args.page.now),
      c.lines_size.ensures 0,
      lines_most new_digits 0 args.marks.now,
    )

pub returns-then-page-size : goal.returns-then-page-size
returns-then-page-size c =
    let args = c.args in
    let size =
    list_size args.marks.now args.base args.reset args.page.now c.header_size-first.result
    c.lines_size.result c.header_size-first.ensures c.lines_size.ensures in
    let said = refused args.marks.now args.base args.reset args.page.now
    (short_page args.marks.now args.base args.reset args.page.now c.in_ok-test_marks.ensures
    (c.header_size-first.result + c.lines_size.result) size c.if-page-size.true) in
    record { answer = said.0; page = said.1 }

pub put_lines-requires : goal.put_lines-requires
put_lines-requires c =
    let room = c.if-page-size.false in
    let args = c.args in
    let front =
    header_front args.marks.now args.base args.reset args.page.now c.header_size-first.result
    c.lines_size.result c.header_size-first.ensures c.lines_size.ensures room
    c.put_header.ensures in (
      rw (← c.lines_size.ensures c.first_address.result) (part_room c.lines_size.result front room),
      omega (
        arith,
        few_marks c.args.marks.now c.args.base c.args.reset
            c.in_ok-test_marks.ensures,
        c.first_address.ensures.1,
      ),
    )

pub returns : goal.returns
returns c =
    let room = c.if-page-size.false in
    let args = c.args in
    let size =
    list_size args.marks.now args.base args.reset args.page.now c.header_size-first.result
    c.lines_size.result c.header_size-first.ensures c.lines_size.ensures in
    let front =
    header_front args.marks.now args.base args.reset args.page.now c.header_size-first.result
    c.lines_size.result c.header_size-first.ensures c.lines_size.ensures room
    c.put_header.ensures in
    let answer =
    is_written args.marks.now args.base args.reset args.page.now c.in_ok-test_marks.ensures
    (c.header_size-first.result + c.lines_size.result) size room in
    let page =
    list_put args.marks.now args.base args.reset args.page.now c.header_size-first.result
    c.lines_size.result c.header_size-first.ensures c.lines_size.ensures
    c.first_address.result c.first_address.ensures.0 room c.put_lines.new.page front
    c.put_lines.ensures in
    record { answer = answer.0; page = page ∙ answer.1 }
