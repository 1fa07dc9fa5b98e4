-- The marks that are read are those of the list.
use mathlib.Core.Path.{sym}
use Rattle.std.proofs.lemmas.Result.{err_from_is_err_and}
use Rattle.answer.proofs.AnswerLaws.{list_refused, list_taken}
use Rattle.answer.proofs.answers.list_answer.Goals as goal

pub returns-in_err-h : goal.returns-in_err-h
returns-in_err-h c =
    let p = err_from_is_err_and c.from_residual.result c.from_residual.ensures.1 in
    rw (p.1, p.2)
    (list_refused c.args.image.now c.args.text.now c.args.marks.now c.requires _ (sym c.in_err-h.ensures.answer))

pub returns : goal.returns
returns c =
    rw (c.verdict_answer.ensures, c.read_list.ensures.marks)
    (list_taken c.args.image.now c.args.text.now c.args.marks.now c.requires _ (sym c.in_ok-h.ensures.answer))
