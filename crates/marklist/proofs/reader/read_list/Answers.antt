-- A refusal leaves the marks; no mark is stored before the last test, and then all are.
use mathlib.Core.Path.{sym, ◌∙◌}
use native.Mathlib.Omega.{arith}
use Rattle.std.proofs.lemmas.Result.{err_from_is_err_and}
use lib.ListN.{length}
use Rattle.lists.specs.MarkList.{digits_by, read_tests}
use Rattle.acceptance.proofs.Image.{right_length}
use Rattle.types.proofs.TestResults.{shown}
use Rattle.marklist.proofs.Reading.{list_headed, refused, is_read, all_marks_lem}
use Rattle.marklist.proofs.reader.read_list.Goals as goal

pub returns-in_err-test_list : goal.returns-in_err-test_list
returns-in_err-test_list c =
    let old = c.is_old-old.result in
    let args = c.args in
    let stays = refused args.text.now args.marks.now old c.header_shown-h.result c.is_old-old.ensures
    c.header_shown-h.ensures
    c.in_err-test_list.ensures in
    let p = err_from_is_err_and c.from_residual.result c.from_residual.ensures.1 in
    record { answer = rw (p.1, p.2) stays.0; marks = stays.1 }

pub fill_marks-requires : goal.fill_marks-requires
fill_marks-requires c =
    let h = c.header_shown-h.result in
    let old = c.is_old-old.result in
    let args = c.args in
    let tested = c.in_ok-test_list.ensures in
    let held = shown (read_tests old h args.text.now (length args.marks.now)) (sym tested) in
    let known = list_headed (digits_by old) h args.text.now held.0 in
    let long = right_length h.length (length args.marks.now) held.1.0 in (
      rw c.header_size.ensures known.inside,
      omega (arith, known.few, long.same, c.first_address.ensures.1),
    )

pub returns : goal.returns
returns c =
    let h = c.header_shown-h.result in
    let old = c.is_old-old.result in
    let args = c.args in
    let tested = c.in_ok-test_list.ensures in
    let held = shown (read_tests old h args.text.now (length args.marks.now)) (sym tested) in
    let long = right_length h.length (length args.marks.now) held.1.0 in
    let answer = is_read args.text.now args.marks.now old h c.is_old-old.ensures
    c.header_shown-h.ensures tested in
    let marks =
    all_marks_lem (digits_by old) h args.text.now c.first_address.result c.header_size.result
    (length args.marks.now) c.fill_marks.new.marks c.first_address.ensures.0
    c.header_size.ensures long.same c.fill_marks.ensures.0 in
    record { answer = answer.0; marks = marks ∙ answer.1 }
