-- The invariant: what is left of the rest of the text, for the addresses from the next one on, is what is left of the
-- whole.
use lib.ListN.{length}
use Rattle.marklist.proofs.RoutineLines.{Judged}
use Rattle.marklist.proofs.routines.is_routine_list.Given as goal

abbrev pub invariant-loop-rest : goal.invariant-loop-rest
invariant-loop-rest l = Judged l.fn.text l.rest l.next

abbrev pub decreases-loop-rest : goal.decreases-loop-rest
decreases-loop-rest l = length l.rest
