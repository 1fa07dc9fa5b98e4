-- The starts of the routines and the reset begin the order; where it has been gone through, nothing is lacking.
use Rattle.builder.proofs.Worklist.{begins, closed}
use Rattle.builder.proofs.close.close_up.Goals as goal

pub returns : goal.returns
returns c =
    let args = c.args in
    let begun = begins args.image.now args.base args.reset args.marks.now c.put.new.marks
    c.put.new.order.places c.put.new.order.count c.requires.1 c.put.ensures.0
    c.put.ensures.1 in
    closed args.image.now args.base args.reset args.marks.now c.work.new.marks
    c.work.new.order.places c.work.new.order.count (c.work.ensures args.reset args.marks.now
    begun)
