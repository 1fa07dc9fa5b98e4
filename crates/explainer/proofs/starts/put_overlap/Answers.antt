-- The place that is found lies at most behind the instruction.
use Rattle.std.proofs.Common.{◌+◌, arith}
use Rattle.prelude.proofs.First.{first_is}
use Rattle.acceptance.specs.Verdict.{start_at}
use Rattle.explainer.proofs.starts.put_overlap.Goals as goal

pub overflow_cast-inside : goal.overflow_cast-inside
overflow_cast-inside c =
    let found = first_is (start_at c.args.marks.now.bytes.now) (c.args.at + 1) c.saturating_sub.result in
    omega (arith, found.at_most)

pub overflow_add-marks : goal.overflow_add-marks
overflow_add-marks c =
    let found = first_is (start_at c.args.marks.now.bytes.now) (c.args.at + 1) c.saturating_sub.result in
    omega (arith, found.at_most)
