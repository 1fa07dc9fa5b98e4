-- The invariant: every place passed breaks no rule. A step may end past the last mark.
use Rattle.std.proofs.Common.{◌+◌, ◌-◌, ◌≤◌, length}
use Rattle.acceptance.specs.Verdict as spec
use Rattle.prelude.proofs.First.{Passed}
use Rattle.checker.proofs.starts_verdict.Given as goal

abbrev pub invariant-loop-at : goal.invariant-loop-at
invariant-loop-at l =
    Passed (spec.broken_at l.image l.marks.bytes.now l.marks.base) 0 l.at × (l.at ≤ length l.marks.bytes.now + 6)

abbrev pub decreases-loop-at : goal.decreases-loop-at
decreases-loop-at l = length l.marks.bytes.now - l.at
