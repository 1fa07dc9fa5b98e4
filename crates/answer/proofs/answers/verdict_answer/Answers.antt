-- The marks of an image that is accepted are few, so their starts fit 32 bits.
use mathlib.Core.Path.{sym}
use native.Mathlib.Omega.{arith}
use Rattle.std.proofs.lemmas.Result.{err_from_is_err_and}
use Rattle.answer.proofs.AnswerLaws.{accepted_few}
use Rattle.answer.specs.AnswerLine as spec
use Rattle.answer.proofs.answers.verdict_answer.Goals as goal

pub returns-in_err-check : goal.returns-in_err-check
unfolding spec.verdict_answer spec.answer_by
returns-in_err-check c =
    let p = err_from_is_err_and c.from_residual.result c.from_residual.ensures.1 in
    rw (p.1, p.2, ← c.in_err-check.ensures)

pub overflow_cast-result : goal.overflow_cast-result
overflow_cast-result c =
    omega (
      arith,
      c.count_starts.ensures,
      accepted_few c.args.image.now c.args.marks.now c.args.base c.args.reset (sym c.in_ok-check.ensures),
    )

pub returns : goal.returns
unfolding spec.verdict_answer spec.answer_by
returns c = rw (← c.in_ok-check.ensures, c.count_starts.ensures)
