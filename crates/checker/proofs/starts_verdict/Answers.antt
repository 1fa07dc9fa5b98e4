use Rattle.std.proofs.Common.{length, refl, sym, ◌∙◌, arith}
use Rattle.checker.proofs.Steps.{step_failed, few_bytes, goes_on, passed_past}
use Rattle.acceptance.specs.Verdict as spec
use Rattle.acceptance.specs.Verdict.{bad_start}
use Rattle.prelude.proofs.First.{passed_to}
use Rattle.acceptance.proofs.Verdict.{stopped_at, passed_over}
use Rattle.checker.proofs.starts_verdict.Goals as goal

pub returns-in-Err : goal.returns-in-Err
unfolding bad_start
returns-in-Err c =
    let image = c.args.image.now in
    let marks = c.args.marks.now.bytes.now in
    let base = c.args.marks.now.base in
    let at = c.loop-at.at in
    let failed = step_failed image marks base at _ (sym c.in-Err.is ∙ c.step_at.ensures) in
    let here = passed_to (spec.broken_at image marks base) 0 at
    (length marks) c.loop-at.invariant.0 (omega (arith, c.loop-at-test.true)) (rw failed refl) in
    stopped_at image marks base at _ here failed

pub loop-at-smaller : goal.loop-at-smaller
loop-at-smaller c =
    let few = few_bytes c.args.image.now c.args.marks.now.bytes.now c.args.marks.now.base c.loop-at.at _
    (sym c.in-Ok.is ∙ c.step_at.ensures) in
    omega (arith, few.0, c.loop-at-test.true)

pub loop-at-preserved : goal.loop-at-preserved
loop-at-preserved c =
    let step = sym c.in-Ok.is ∙ c.step_at.ensures in
    let few = few_bytes c.args.image.now c.args.marks.now.bytes.now c.args.marks.now.base c.loop-at.at _ step in (
      goes_on c.args.image.now c.args.marks.now.bytes.now c.args.marks.now.base c.loop-at.at _ step
          c.loop-at.invariant.0,
      omega (arith, few.1, c.loop-at-test.true),
    )

pub returns : goal.returns
unfolding bad_start
returns c =
    let image = c.args.image.now in
    let marks = c.args.marks.now.bytes.now in
    passed_over image marks c.args.marks.now.base
    (passed_past (spec.broken_at image marks c.args.marks.now.base) c.loop-at.at
    (length marks) c.loop-at.invariant.0 c.loop-at-test.false)
