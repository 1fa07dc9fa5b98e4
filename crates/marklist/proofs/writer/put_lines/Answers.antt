use native.Mathlib.Omega.{arith}
use lib.ListN.{get_or}
use Rattle.lists.specs.MarkList as spec
use Rattle.lists.specs.MarkList.{new_digits}
use Rattle.text.proofs.Pages.{front_length, front_inside, part_room}
use Rattle.marklist.proofs.Walks.{none_put, line_fits, one_more_put, all_put}
use Rattle.marklist.proofs.writer.put_lines.Goals as goal

pub loop-i-init : goal.loop-i-init
loop-i-init c =
    none_put new_digits c.args.page.now c.args.address c.args.marks.now

pub slice_bounds-put_line-count : goal.slice_bounds-put_line-count
slice_bounds-put_line-count c = front_inside c.loop-i.invariant.1

pub put_line-at-requires : goal.put_line-at-requires
put_line-at-requires c =
    let loop = c.loop-i in
    part_room (spec.line_size new_digits (get_or c.args.marks.now loop.i 0)) loop.invariant.1 (line_fits new_digits
    c.args.page.now c.args.address c.args.marks.now loop.page loop.at loop.i
    c.requires.0 c.loop-i-test.true loop.invariant)

pub overflow_add-at : goal.overflow_add-at
overflow_add-at c =
    let loop = c.loop-i in
    omega (
      arith,
      c.put_line-at.ensures.0,
      line_fits new_digits c.args.page.now c.args.address
          c.args.marks.now loop.page loop.at loop.i c.requires.0
          c.loop-i-test.true loop.invariant,
    )

pub loop-i-preserved : goal.loop-i-preserved
loop-i-preserved c =
    let loop = c.loop-i in
    one_more_put new_digits c.args.page.now c.args.address c.args.marks.now loop.page
    loop.at
    loop.i c.requires.0 c.loop-i-test.true loop.invariant c.put_line-at.result c.put_line-at.new.page
    c.put_line-at.ensures.0 c.put_line-at.ensures.1

pub shape_of-page : goal.shape_of-page
shape_of-page c = front_length c.loop-i.invariant.1

pub returns : goal.returns
returns c =
    let loop = c.loop-i in
    all_put new_digits c.args.page.now c.args.address c.args.marks.now loop.page loop.at
    loop.i c.loop-i-test.false loop.invariant
