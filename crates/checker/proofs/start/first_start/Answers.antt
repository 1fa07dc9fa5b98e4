use Rattle.prelude.proofs.First.{passed_to, passed_all}
use Rattle.acceptance.specs.Verdict as verdict
use Rattle.std.proofs.Common.{◌≡◌, ◌+◌, arith}
use Rattle.checker.proofs.start.first_start.Goals as goal

pub returns-then-is_start : goal.returns-then-is_start
returns-then-is_start c =
    passed_to (verdict.start_at c.args.marks.now) c.args.from c.loop-i.i c.args.n c.loop-i.invariant
    (omega arith) (rw (c.is_start.ensures, c.byte_at.ensures) at c.if-is_start.true)

pub returns : goal.returns
returns c =
    let args = c.args in
    let same : c.loop-i.i ≡ args.from + args.n = omega arith in
    passed_all (verdict.start_at args.marks.now) args.from (args.from + args.n) args.n
    (rw same at c.loop-i.invariant) (omega arith) (omega arith)
