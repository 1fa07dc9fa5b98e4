-- Over a limit, and where nothing is printed, the line is that of the program check; else the rows are the page.
use mathlib.Core.Path.{sym, ◌∙◌}
use Rattle.reports.specs.PrintedPage.{page_after}
use Rattle.answer.proofs.AnswerLaws.{within_short}
use Rattle.answer.proofs.PutLaws.{front_part}
use Rattle.printout.proofs.PrintoutLaws.{rows_taken, none_taken, over_printed, within_printed}
use Rattle.printout.specs.Printout as spec
use Rattle.printout.proofs.put_printout.Goals as goal

pub returns-then-not-are_within_limits : goal.returns-then-not-are_within_limits
returns-then-not-are_within_limits c =
    let args = c.args in
    let same = over_printed args.image.now args.text.now
    (sym c.are_within_limits.ensures ∙ c.if-not-are_within_limits.true) in
    record { text = rw same c.put_answer_line.ensures.line; part = c.put_answer_line.ensures.part }

pub returns-in-Ok : goal.returns-in-Ok
unfolding page_after
returns-in-Ok c =
    let args = c.args in
    let n = c.in-Ok.size in
    let told = c.in-Ok.is in
    let by-list = c.print_by_list.ensures in
    let taken = rows_taken args.image.now args.text.now n args.page.now (sym by-list.answer ∙ told) in
    let whole = within_printed args.image.now args.text.now
    (sym c.are_within_limits.ensures ∙ c.if-not-are_within_limits.false) ∙ taken.0 in
    let front = rw told at by-list.page in record {
      text = (rw whole taken.1, rw whole front);
      part = front_part (spec.files_page args.image.now args.text.now) args.page.now _ n taken.1 front;
    }

pub returns-in-Err : goal.returns-in-Err
unfolding page_after
returns-in-Err c =
    let args = c.args in
    let within = sym c.are_within_limits.ensures ∙ c.if-not-are_within_limits.false in
    let by-list = c.print_by_list.ensures in
    let same = within_printed args.image.now args.text.now within
    ∙ none_taken args.image.now args.text.now _ _ args.page.now (within_short args.image.now args.text.now within)
    c.requires (sym by-list.answer ∙ c.in-Err.is) in
    let left = rw c.in-Err.is at by-list.page in
    record {
      text = rw (same, ← left) c.put_answer_line-in-Err.ensures.line;
      part = c.put_answer_line-in-Err.ensures.part;
    }
