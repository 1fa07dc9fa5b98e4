-- No line is too long for its buffer.
use Rattle.std.proofs.Common.{arith}
use Rattle.std.proofs.lemmas.Grind.{common_steps}
use Rattle.reports.specs.Explanation as spec
use Rattle.explainer.proofs.Lengths.{line_most}
use Rattle.explainer.proofs.explanation.Goals as goal

pub put_heading-requires : goal.put_heading-requires
unfolding spec.explanation spec.line_by spec.refused_line
put_heading-requires c =
    let few = line_most c.args.image.now c.args.marks.now c.args.base c.args.reset in
    grind (arith, common_steps)

pub put_detail-requires-clause-room : goal.put_detail-requires-clause-room
unfolding spec.explanation spec.line_by spec.refused_line
put_detail-requires-clause-room c =
    let few = line_most c.args.image.now c.args.marks.now c.args.base c.args.reset in
    grind (arith, common_steps)

pub push_text-requires-in-Err : goal.push_text-requires-in-Err
unfolding spec.explanation spec.line_by spec.refused_line
push_text-requires-in-Err c =
    let few = line_most c.args.image.now c.args.marks.now c.args.base c.args.reset in
    grind (arith, common_steps)
