use Rattle.std.proofs.Common.{arith, get_or, inl, refl}
use Rattle.locator.specs.Passing.{last_of}
use Rattle.locator.proofs.Passes.{is_marked, begins, mark_left, goes_on, ends}
use Rattle.locator.proofs.pass.pass_marks.Goals as goal

pub loop-state-init : goal.loop-state-init
loop-state-init c =
    let args = c.args in (
      begins args.image.now args.marks.now.bytes.now args.marks.now.base args.addresses.now args.places.now
          c.requires.0 c.requires.1,
      omega arith,
      inl refl,
    )

-- where a mark is read
pub bounds-marks-i : goal.bounds-marks-i
bounds-marks-i c =
    let args = c.args in
    let loop = c.loop-state in
    mark_left args.image.now args.marks.now.bytes.now args.marks.now.base args.addresses.now args.places.now
    loop.places loop.state.served (last_of loop.state) loop.i loop.invariant.0 c.loop-state-test.true

-- and when it has been read
pub serve-state-requires : goal.serve-state-requires
serve-state-requires c =
    let args = c.args in
    let loop = c.loop-state in
    let pre = c.requires in
    let below =
    mark_left args.image.now args.marks.now.bytes.now args.marks.now.base args.addresses.now args.places.now
    loop.places loop.state.served (last_of loop.state) loop.i loop.invariant.0 c.loop-state-test.true in
    let so =
    is_marked args.image.now loop.state loop.i (get_or args.marks.now.bytes.now loop.i 0)
    c.read_mark-state.result c.read_mark-state.ensures loop.invariant.1 loop.invariant.2 in
    let more = c.loop-state-test.true in (
      so.known,
      omega (arith, so.low, below, args.marks.now.low),
      omega (arith, below, args.marks.now.low),
      omega (arith, so.served, more),
      omega (arith, so.served, more, loop.invariant.0.size, pre.2),
    )

-- and the address served
pub loop-state-preserved : goal.loop-state-preserved
loop-state-preserved c =
    let args = c.args in
    let loop = c.loop-state in
    let so =
    is_marked args.image.now loop.state loop.i (get_or args.marks.now.bytes.now loop.i 0)
    c.read_mark-state.result c.read_mark-state.ensures loop.invariant.1 loop.invariant.2 in
    let one = c.serve-state.ensures in (
      goes_on args.image.now args.marks.now.bytes.now args.marks.now.base args.addresses.now args.places.now
          loop.places loop.state.served (last_of loop.state) loop.i loop.invariant.0
          c.loop-state-test.true c.read_mark-state.result c.serve-state.result
          c.serve-state.new.places c.requires.2 so.served so.last one,
      omega (arith, so.low, one.same_start),
      one.known,
    )

pub returns : goal.returns
returns c =
    let args = c.args in
    let loop = c.loop-state in
    ends args.image.now args.marks.now.bytes.now args.marks.now.base args.addresses.now args.places.now
    loop.places loop.state.served (last_of loop.state) loop.i loop.invariant.0 c.loop-state-test.false
