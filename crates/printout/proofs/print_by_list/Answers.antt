-- A list that is refused prints nothing; one that is read gives the marks by which the image is printed.
use Rattle.std.specs.Prelude.{Ok}
use Rattle.std.proofs.lemmas.Result.{err_from_is_err_and}
use mathlib.Core.Path.{◌≡◌, refl, sym}
use Rattle.reports.specs.PrintedPage.{page_after}
use Rattle.lists.specs.MarkList.{read_list}
use Rattle.printout.proofs.PrintoutLaws.{list_refused, list_printed, page_printed_lem}
use Rattle.printout.proofs.print_by_list.Goals as goal

pub returns-in_err-h : goal.returns-in_err-h
unfolding page_after
returns-in_err-h c =
    let args = c.args in
    let p = err_from_is_err_and c.from_residual.result c.from_residual.ensures.1 in
    rw (p.1, p.2)
    (record {
      answer = list_refused args.image.now args.text.now args.marks.now c.requires args.page.now _
          (sym c.in_err-h.ensures.answer);
      page = refl;
    })

pub returns : goal.returns
returns c =
    let args = c.args in
    let read : read_list args.text.now args.marks.now ≡ Ok c.in_ok-h.h = sym c.in_ok-h.ensures.answer in
    record {
      answer = rw (c.print.ensures.answer, c.read_list.ensures.marks)
          (list_printed args.image.now args.text.now args.marks.now c.requires args.page.now _ read);
      page = rw (c.print.ensures.page, c.print.ensures.answer, c.read_list.ensures.marks)
          (page_printed_lem args.image.now args.text.now args.marks.now c.requires args.page.now _ read);
    }
