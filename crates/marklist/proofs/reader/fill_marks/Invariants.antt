-- The invariant: the marks before i are filled, and the text from the place on shows the others; what is left there for
-- the addresses to come is what is left of the whole.
use lib.ListN.{length}
use Rattle.lists.specs.MarkList.{digits_by}
use Rattle.marklist.proofs.Walks.{Filled, Left}
use Rattle.marklist.proofs.reader.fill_marks.Given as goal

abbrev pub invariant-loop-i : goal.invariant-loop-i
invariant-loop-i l = Filled (digits_by l.old) l.text l.at l.address l.initial.marks l.marks l.place l.i
    × Left (digits_by l.old) l.text l.at l.address (length l.initial.marks) l.place l.i
