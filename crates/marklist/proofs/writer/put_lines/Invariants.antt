-- The invariant: the lines of the marks before i are in front, and with those of the others they are all lines.
use Rattle.lists.specs.MarkList.{new_digits}
use Rattle.marklist.proofs.Walks.{Put}
use Rattle.marklist.proofs.writer.put_lines.Given as goal

abbrev pub invariant-loop-i : goal.invariant-loop-i
invariant-loop-i l = Put new_digits l.initial.page l.address l.marks l.page l.at l.i
