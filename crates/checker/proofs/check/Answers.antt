-- A refusal of the tests is the answer; where they hold they bound the marks and the base for the search.
use Rattle.std.proofs.Common.{length, sym, ◌∙◌}
use Rattle.acceptance.specs.Verdict.{marks_tests}
use Rattle.acceptance.proofs.Image.{right_length, base_whole}
use Rattle.acceptance.proofs.Meaning.{tests_small}
use Rattle.types.proofs.TestResults.{shown}
use Rattle.checker.proofs.check.Goals as goal

pub offset_of-offset-requires : goal.offset_of-offset-requires
offset_of-offset-requires c =
    let args = c.args in
    tests_small args.image.now args.marks.now args.base args.reset _
    (sym c.test_marks.ensures ∙ c.in-Err.is)

pub starts_verdict-requires : goal.starts_verdict-requires
starts_verdict-requires c =
    let args = c.args in
    let held = shown (marks_tests (length args.image.now) args.marks.now args.base args.reset)
    (sym c.test_marks.ensures ∙ c.in_default.is) in
    (right_length (length args.image.now) (length args.marks.now) held.0).same

pub invariant_of-starts_verdict : goal.invariant_of-starts_verdict
invariant_of-starts_verdict c =
    let args = c.args in
    let held = shown (marks_tests (length args.image.now) args.marks.now args.base args.reset)
    (sym c.test_marks.ensures ∙ c.in_default.is) in
    let long = right_length (length args.image.now) (length args.marks.now) held.0 in
    record { low = rw long.same (base_whole args.base (length args.image.now) held.1.0) }
