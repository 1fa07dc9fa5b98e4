-- The room is tested against what the rows take, before the first of them is written.
use Prim.Native.Nat.{◌*◌}
use native.Mathlib.Omega.{arith}
use Rattle.reports.specs.PrintedPage.{page_text}
use Rattle.printer.proofs.Printing.{short_page, rows_printed}
use Rattle.printer.proofs.print_rows.Goals as goal

pub overflow_mul-size : goal.overflow_mul-size
overflow_mul-size c = omega (arith, c.requires.few)

pub returns-then-page-size : goal.returns-then-page-size
returns-then-page-size c =
    let args = c.args in
    let said =
    short_page (page_text args.view.image.now args.view.marks.now args.view.base) args.page.now (args.starts * 36)
    c.requires.size c.if-page-size.true in
    record { answer = said.0; page = said.1 }

pub put_rows-requires : goal.put_rows-requires
put_rows-requires c =
    (omega (arith, c.requires.size, c.if-page-size.false), c.requires.same)

pub returns : goal.returns
returns c =
    let args = c.args in
    let said =
    rows_printed (page_text args.view.image.now args.view.marks.now args.view.base) args.page.now (args.starts * 36)
    c.requires.size c.if-page-size.false c.put_rows.new.page c.put_rows.ensures in
    record { answer = said.0; page = said.1 }
