-- The invariant: what is worked and the digits that are left, weighed, are the value worked from the last. At the end
-- the theorem turns that into the value worked from the first.
use lib.ListN.{drop}
use Rattle.text.proofs.Turns.{Worked}
use Rattle.text.proofs.digits.number.Given as goal

abbrev pub invariant-loop-i : goal.invariant-loop-i
invariant-loop-i l = Worked l.radix l.count (drop l.at l.text) l.value l.weight l.i
