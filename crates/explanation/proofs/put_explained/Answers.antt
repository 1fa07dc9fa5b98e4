-- The answer's line, and behind it the explanation where both files are within their limits.
use mathlib.Core.Path.{sym, ◌∙◌}
use native.Mathlib.Omega.{arith}
use Rattle.answer.proofs.AnswerLaws.{within_few}
use Rattle.explanation.proofs.ExplainedLaws.{over_limits, within_limits, answer_alone, room_behind, both_lines}
use Rattle.explanation.proofs.put_explained.Goals as goal

pub returns-then-not-are_within_limits : goal.returns-then-not-are_within_limits
returns-then-not-are_within_limits c =
    let args = c.args in
    let shown = answer_alone args.image.now args.text.now
    (over_limits args.image.now args.text.now (sym c.are_within_limits.ensures ∙ c.if-not-are_within_limits.true))
    (rw c.answer_for.ensures at c.put_answer-at.ensures) in
    record { text = shown.0; part = shown.1 }

pub put_alone-requires : goal.put_alone-requires
put_alone-requires c =
    let args = c.args in
    let few = within_few args.image.now args.text.now
    (sym c.are_within_limits.ensures ∙ c.if-not-are_within_limits.false) in
    (few, room_behind args.image.now args.text.now c.requires (rw c.answer_for.ensures at c.put_answer-at.ensures))

pub overflow_add-result : goal.overflow_add-result
overflow_add-result c =
    omega (arith, c.put_answer-at.ensures.most, c.put_alone.ensures.2)

pub returns : goal.returns
returns c =
    let args = c.args in
    let said = c.put_alone.ensures in
    let shown = both_lines args.image.now args.text.now c.requires
    (rw c.answer_for.ensures at c.put_answer-at.ensures)
    (within_limits args.image.now args.text.now (sym c.are_within_limits.ensures ∙ c.if-not-are_within_limits.false))
    said.0 said.1 said.2 in
    record { text = shown.0; part = shown.1 }
