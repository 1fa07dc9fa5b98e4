-- The invariant: the cells of the bytes before k are in front.
use Rattle.printer.proofs.RowLaws.{Cells}
use Rattle.printer.proofs.rows.put_cells.Given as goal

abbrev pub invariant-loop-k : goal.invariant-loop-k
invariant-loop-k l = Cells l.bytes l.initial.page l.page l.k
