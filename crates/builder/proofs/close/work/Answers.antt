use mathlib.Core.Path.{◌∙◌}
use Prim.Native.Nat.{◌<◌}
use native.Mathlib.Omega.{arith}
use lib.ListN.{length}
use Rattle.builder.proofs.Putting.{queue_room}
use Rattle.builder.proofs.Worklist.{worked_on, worked_all}
use Rattle.builder.proofs.close.work.Goals as goal

pub offset_bounds-order-done : goal.offset_bounds-order-done
offset_bounds-order-done c =
    let inside : (c.loop-done.done < length c.loop-done.marks)
    × (c.loop-done.done < length c.loop-done.order.places) =
    let loop = c.loop-done in
    let room = queue_room loop.marks loop.order.places loop.order.count loop.invariant.0 in
    (omega (arith, room.0, c.loop-done-test.true), omega (arith, room.1, c.loop-done-test.true)) in
    omega (arith, inside.1)

pub bounds-order-done : goal.bounds-order-done
bounds-order-done c =
    let loop = c.loop-done in
    let room = queue_room loop.marks loop.order.places loop.order.count loop.invariant.0 in
    omega (arith, room.0, c.loop-done-test.true, loop.invariant.1, c.requires.3)

pub loop-done-smaller : goal.loop-done-smaller
loop-done-smaller c =
    let inside : (c.loop-done.done < length c.loop-done.marks)
    × (c.loop-done.done < length c.loop-done.order.places) =
    let loop = c.loop-done in
    let room = queue_room loop.marks loop.order.places loop.order.count loop.invariant.0 in
    (omega (arith, room.0, c.loop-done-test.true), omega (arith, room.1, c.loop-done-test.true)) in
    omega (arith, inside.0, c.loop-done.invariant.1)

pub loop-done-preserved : goal.loop-done-preserved
loop-done-preserved c =
    let args = c.args in
    let loop = c.loop-done in (
      c.put_behind.ensures.1,
      c.marks-1.given ∙ loop.invariant.1,
      λ reset routines w. worked_on args.image.now args.base reset routines loop.marks loop.order.places
          c.put_behind.new.marks c.put_behind.new.order.places loop.order.count
          c.put_behind.new.order.count
          loop.done (loop.invariant.2 reset routines w) c.loop-done-test.true (loop.invariant.1 ∙ c.requires.1)
          c.put_behind.ensures.0 c.put_behind.ensures.1 c.put_behind.ensures.2,
    )

pub returns : goal.returns
returns c =
    let args = c.args in
    let loop = c.loop-done in
    λ reset routines w. worked_all args.image.now args.base reset routines loop.marks loop.order.places
    loop.order.count loop.done (loop.invariant.2 reset routines w) c.loop-done-test.false
