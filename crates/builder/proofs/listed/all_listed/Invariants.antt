-- The invariant: no start before this place calls what is not on the list.
use Rattle.prelude.proofs.First.{Passed}
use Rattle.lists.specs.Routines.{stray_at}
use Rattle.builder.proofs.listed.all_listed.Given as goal

abbrev pub invariant-loop-at : goal.invariant-loop-at
invariant-loop-at l = Passed (stray_at l.image l.marks.bytes.now l.marks.base l.routines.bytes.now) 0 l.at
