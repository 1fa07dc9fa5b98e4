-- Where the address is free there is room in the order for one place more.
use mathlib.Core.Path.{sym}
use native.Mathlib.Omega.{arith}
use Rattle.builder.proofs.Putting.{free_place, put_free, put_taken, kept_same, kept_more, fewer}
use Rattle.builder.proofs.Putting.{queue_more}
use Rattle.builder.proofs.order.put.Goals as goal

pub returns-in_default : goal.returns-in_default
returns-in_default c =
    let args = c.args in (
      sym (put_taken args.marks.now args.base args.w.address args.w.mark c.in_default.ensures),
      c.requires.0,
      kept_same args.order.now.places args.order.now.count,
    )

pub bounds-marks-place : goal.bounds-marks-place
bounds-marks-place c = (free_place c.args.marks.now c.args.base c.args.w.address _ c.in-Some.ensures).inside

pub push-requires : goal.push-requires
push-requires c =
    let args = c.args in
    let free = free_place args.marks.now args.base args.w.address _ c.in-Some.ensures in (
      omega (
        arith,
        fewer args.marks.now args.order.now.places args.order.now.count _ args.w.mark c.requires.0 free.inside
            free.none c.requires.1,
        c.requires.2,
      ),
      omega (arith, free.inside, c.requires.2),
    )

pub returns-in-Some : goal.returns-in-Some
returns-in-Some c =
    let args = c.args in
    let free = free_place args.marks.now args.base args.w.address _ c.in-Some.ensures in
    rw (c.push.ensures.0, c.push.ensures.1) (
      rw c.in-Some.ensures.1 (sym (put_free args.marks.now args.base args.w.address args.w.mark c.in-Some.ensures.0)),
      queue_more args.marks.now args.order.now.places args.order.now.count _ args.w.mark c.requires.0 free.inside
          free.none c.requires.1,
      kept_more args.order.now.places args.order.now.count _,
    )
