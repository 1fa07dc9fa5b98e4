-- Part behind part; the parts joined are the row.
use Rattle.printer.proofs.RowLaws.{row_put}
use Rattle.printer.proofs.rows.put_row.Goals as goal

pub returns : goal.returns
returns c =
    row_put c.args.address c.args.number c.args.mark c.args.bytes.now
    c.args.page.now c.requires c.put_field.new.page c.put_cells.new.page
    c.syntax_word.result c.put_bytes.new.page c.mark_columns.result
    c.put_bytes-2.new.page c.put_field.ensures c.put_cells.ensures c.syntax_word.ensures
    c.mark_columns.ensures c.put_bytes.ensures c.put_bytes-2.ensures
