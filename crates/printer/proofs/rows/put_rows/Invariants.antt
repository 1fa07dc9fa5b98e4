-- The invariant: the rows of the places before `at` are in front.
use lib.ListN.{length}
use Rattle.reports.specs.PrintedPage as spec
use Rattle.printer.proofs.Pieces.{Pieces}
use Rattle.printer.proofs.rows.put_rows.Given as goal

abbrev pub invariant-loop-at : goal.invariant-loop-at
invariant-loop-at l = Pieces (spec.row_at l.image l.marks.bytes.now l.marks.base) (length l.marks.bytes.now)
    l.initial.page l.page l.written l.at
