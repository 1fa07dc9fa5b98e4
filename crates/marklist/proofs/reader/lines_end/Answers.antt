use native.Mathlib.Omega.{arith}
use Rattle.lists.specs.MarkList.{digits_by}
use Rattle.text.proofs.Pages.{part_whole}
use Rattle.marklist.proofs.Walks.{none_walked, one_more_walked, all_walked}
use Rattle.marklist.proofs.reader.lines_end.Goals as goal

pub loop-i-init : goal.loop-i-init
loop-i-init c =
    none_walked (digits_by c.args.old) c.args.text.now c.args.at c.args.address
    c.args.count c.requires.0

pub overflow_add-place : goal.overflow_add-place
overflow_add-place c =
    let loop = c.loop-i in
    let part = part_whole loop.place c.args.text.now in
    let size = rw (c.mark_shown.ensures, part) at c.line_size-place.ensures in
    let next =
    one_more_walked (digits_by c.args.old) c.args.text.now c.args.at c.args.address
    c.args.count
    loop.place loop.i c.line_size-place.result c.loop-i-test.true size loop.invariant in
    omega (arith, next.1)

pub loop-i-preserved : goal.loop-i-preserved
loop-i-preserved c =
    let loop = c.loop-i in
    let part = part_whole loop.place c.args.text.now in
    let size = rw (c.mark_shown.ensures, part) at c.line_size-place.ensures in
    one_more_walked (digits_by c.args.old) c.args.text.now c.args.at c.args.address
    c.args.count
    loop.place loop.i c.line_size-place.result c.loop-i-test.true size loop.invariant

pub returns : goal.returns
returns c =
    let loop = c.loop-i in (
      loop.invariant.1,
      all_walked (digits_by c.args.old) c.args.text.now c.args.at c.args.address
          c.args.count
          loop.place loop.i c.loop-i-test.false loop.invariant,
    )
