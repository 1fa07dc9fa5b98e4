-- What was worked out is accepted, and its list is the one of the definition; else the line is.
use Rattle.builtlist.proofs.Lists.{refused_list, delivered_accepted, delivered_list}
use Rattle.builtlist.proofs.put_list.Goals as goal

pub put_accepted-requires : goal.put_accepted-requires
put_accepted-requires c =
    let args = c.args in
    let accepted = delivered_accepted args.image.now args.base args.reset args.text.now args.marks.now
    c.requires.0 (rw (← c.build_marks.ensures.answer) c.in-Ok.is) in
    ((args.image.now, rw c.build_marks.ensures.marks accepted), c.requires.1)

pub returns-in-Err : goal.returns-in-Err
returns-in-Err c =
    let args = c.args in
    let same = refused_list args.image.now args.base args.reset args.text.now args.marks.now
    c.requires.0 _ (rw c.build_marks.ensures.answer at c.in-Err.is) in
    (rw (← same) c.put_answer.ensures.size, rw (← same) c.put_answer.ensures.same)

pub returns-in-Ok : goal.returns-in-Ok
returns-in-Ok c =
    let args = c.args in
    let same = delivered_list args.image.now args.base args.reset args.text.now args.marks.now
    c.requires.0 (rw (← c.build_marks.ensures.answer) c.in-Ok.is) in
    rw (← same, ← c.build_marks.ensures.marks) c.put_accepted.ensures
