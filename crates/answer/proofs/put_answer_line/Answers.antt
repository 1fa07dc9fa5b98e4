-- The line of the answer, whose bytes are a part of the page.
use Rattle.answer.proofs.PutLaws.{put_inside}
use Rattle.answer.specs.AnswerLine as spec
use Rattle.answer.proofs.put_answer_line.Goals as goal

pub returns : goal.returns
unfolding spec.answer_line
returns c =
    let put = rw c.answer_for.ensures at c.put_answer.ensures in
    record { line = (put.size, put.same); part = put_inside put c.requires }
