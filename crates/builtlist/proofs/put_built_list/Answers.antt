-- What is not taken is L; else the list is written for as many marks as the image has bytes.
use Rattle.builtlist.proofs.Words.{not_taken, taken_list}
use Rattle.builtlist.specs.BuiltList as spec
use Rattle.answer.proofs.PutLaws.{put_inside, front_part}
use native.Mathlib.Omega.{arith}
use mathlib.Core.Path.{ap}
use mathlib.Core.Bool.{not}
use Rattle.builtlist.proofs.put_built_list.Goals as goal

pub returns-then-not-is_taken : goal.returns-then-not-is_taken
returns-then-not-is_taken c =
    let args = c.args in
    let same = not_taken args.image.now args.base.now args.reset.now args.text.now _
    c.is_taken.ensures (ap not c.if-not-is_taken.true) in
    let put = c.put_answer.ensures in
    record {
      text = (rw (← same) put.size, rw (← same) put.same);
      part = put_inside put (omega (arith, c.requires));
    }

pub returns : goal.returns
returns c =
    let args = c.args in
    let same = taken_list args.image.now args.base.now args.reset.now args.text.now _
    c.is_taken.ensures (ap not c.if-not-is_taken.false) in
    let put =
    rw (c.number.ensures.0, c.number-2.ensures.0, same) at c.put_list.ensures in record {
      text = put;
      part = front_part (spec.built_list args.image.now args.base.now args.reset.now args.text.now)
          args.page.now _ _ put.0 put.1;
    }
