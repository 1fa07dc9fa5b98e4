-- Where all marks stand there, all are starts, so that no test fails; else 8 decides whether it is 8 or 9.
use Rattle.std.proofs.Common.{rules, false, sym, refl, ◌∙◌}
use Rattle.types.proofs.TestResults.{none_fails, fails, holds}
use mathlib.Core.Path.{ap}
use mathlib.Core.Bool.{not}
use Rattle.acceptance.specs.Verdict.{is_start_at, has_mark_at}
use Rattle.checker.proofs.Owes.{all_marks_by, all_starts_by}
use Rattle.checker.proofs.start.test_owed.Goals as goal

pub returns-then-all_owed : goal.returns-then-all_owed
returns-then-all_owed c =
    let args = c.args in
    let given = c.all_owed.ensures (has_mark_at args.marks.now.bytes.now args.marks.now.base) (λ w yes e. search
    rules) in
    let marks = sym (given ∙ all_marks_by _ _ _) ∙ c.if-all_owed.true in
    sym (none_fails _ (c.requires marks, (marks, tt)))

pub returns-then-not-all_owed : goal.returns-then-not-all_owed
returns-then-not-all_owed c =
    let args = c.args in
    let given = c.all_owed-2.ensures (is_start_at args.marks.now.bytes.now args.marks.now.base) (λ w yes e. search
    rules) in
    fails _ _ (given ∙ all_starts_by _ _ _) (ap not c.if-not-all_owed.true)

pub returns : goal.returns
returns c =
    let args = c.args in
    let marks = c.all_owed.ensures (has_mark_at args.marks.now.bytes.now args.marks.now.base) (λ w yes e. search
    rules) in
    let starts = c.all_owed-2.ensures (is_start_at args.marks.now.bytes.now args.marks.now.base) (λ w yes e. search
    rules) in
    holds _ _ (starts ∙ all_starts_by _ _ _) (ap not c.if-not-all_owed.false)
    (fails {given = false} _ _
    (sym c.if-all_owed.false ∙ marks ∙ all_marks_by _ _ _) refl)
