-- The invariant: every place passed is no start.
use Rattle.prelude.proofs.First.{Passed}
use Rattle.acceptance.specs.Verdict as verdict
use Rattle.checker.proofs.start.first_start.Given as goal

abbrev pub invariant-loop-i : goal.invariant-loop-i
invariant-loop-i l = Passed (verdict.start_at l.marks) l.from l.i
