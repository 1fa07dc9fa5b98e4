-- The invariant: what is left from the place on for the addresses to come is what is left of the whole.
use Rattle.lists.specs.MarkList.{digits_by}
use Rattle.marklist.proofs.Walks.{Left}
use Rattle.marklist.proofs.reader.lines_end.Given as goal

abbrev pub invariant-loop-i : goal.invariant-loop-i
invariant-loop-i l = Left (digits_by l.old) l.text l.at l.address l.count l.place l.i
