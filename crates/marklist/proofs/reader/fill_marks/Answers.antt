use native.Mathlib.Omega.{arith}
use lib.ListN.{length}
use Rattle.lists.specs.MarkList.{digits_by}
use Rattle.text.proofs.Pages.{part_whole}
use Rattle.marklist.proofs.Walks.{none_filled, one_more_filled, all_filled, none_walked}
use Rattle.marklist.proofs.Walks.{one_more_walked, all_walked}
use Rattle.marklist.proofs.reader.fill_marks.Goals as goal

pub loop-i-init : goal.loop-i-init
loop-i-init c =
    let args = c.args in
    let count = digits_by args.old in (
      none_filled count args.text.now args.at args.address args.marks.now c.requires.0,
      none_walked count args.text.now args.at args.address (length args.marks.now) c.requires.0,
    )

pub overflow_add-place : goal.overflow_add-place
overflow_add-place c =
    let loop = c.loop-i in
    let shown = rw (part_whole loop.place c.args.text.now) at c.mark_shown.ensures in
    let next =
    one_more_filled (digits_by c.args.old) c.args.text.now c.args.at c.args.address
    c.args.marks.now
    loop.marks loop.place loop.i c.mark_shown.result c.line_size-place.result
    (omega (arith, loop.invariant.0.2, c.loop-i-test.true)) shown c.line_size-place.ensures loop.invariant.0 in
    omega (arith, next.1)

pub loop-i-smaller : goal.loop-i-smaller
loop-i-smaller c = omega (arith, c.loop-i.invariant.0.2)

pub loop-i-preserved : goal.loop-i-preserved
loop-i-preserved c =
    let loop = c.loop-i in
    let args = c.args in
    let count = digits_by args.old in
    let shown = rw (part_whole loop.place args.text.now) at c.mark_shown.ensures in
    let size = c.line_size-place.result in (
      one_more_filled count args.text.now args.at args.address args.marks.now loop.marks loop.place
          loop.i c.mark_shown.result size (omega (arith, loop.invariant.0.2, c.loop-i-test.true)) shown
          c.line_size-place.ensures loop.invariant.0,
      one_more_walked count args.text.now args.at args.address (length args.marks.now) loop.place
          loop.i size c.loop-i-test.true (rw shown at c.line_size-place.ensures)
          loop.invariant.1,
    )

pub shape_of-marks : goal.shape_of-marks
shape_of-marks c = c.loop-i.invariant.0.2

pub returns : goal.returns
returns c =
    let args = c.args in
    let count = digits_by args.old in
    let loop = c.loop-i in (
      all_filled count args.text.now args.at args.address args.marks.now loop.marks loop.place
          loop.i (omega (arith, loop.invariant.0.2, c.loop-i-test.false)) loop.invariant.0,
      loop.invariant.1.1,
      all_walked count args.text.now args.at args.address (length args.marks.now) loop.place loop.i
          c.loop-i-test.false loop.invariant.1,
    )
