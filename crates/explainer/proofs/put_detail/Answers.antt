-- The tests before a refusal have shown what is asked of its place.
use Rattle.std.proofs.Common.{arith}
use Rattle.explainer.proofs.Answers.{refused_shows, past_three}
use Rattle.explainer.proofs.put_detail.Goals as goal

pub invariant_of-put_reset : goal.invariant_of-put_reset
invariant_of-put_reset c =
    let shown = refused_shows _ _ _ _ c.args.why c.args.at c.requires.refused in
    record { low = shown.low (rw c.in-Reset.is (omega arith)) }

pub invariant_of-put_mark : goal.invariant_of-put_mark
invariant_of-put_mark c =
    let shown = refused_shows _ _ _ _ c.args.why c.args.at c.requires.refused in
    record { low = shown.low (rw c.in-Mark.is (omega arith)) }

pub put_mark-requires-clause-inside : goal.put_mark-requires-clause-inside
put_mark-requires-clause-inside c =
    let shown = refused_shows _ _ _ _ c.args.why c.args.at c.requires.refused in
    shown.inside (rw c.in-Mark.is (omega arith))

pub invariant_of-marks : goal.invariant_of-marks
invariant_of-marks c =
    let shown = refused_shows _ _ _ _ c.args.why c.args.at c.requires.refused in
    let other = c.in_default in
    let late = past_three c.args.why other.not-Length other.not-Base other.not-Reset in
    record { low = shown.low (omega arith) }

pub invariant_of-put_at_start : goal.invariant_of-put_at_start
invariant_of-put_at_start c =
    let shown = refused_shows _ _ _ _ c.args.why c.args.at c.requires.refused in
    let other = c.in_default in
    let late = past_three c.args.why other.not-Length other.not-Base other.not-Reset in
    record { same = shown.same (omega arith); inside = shown.inside late }
