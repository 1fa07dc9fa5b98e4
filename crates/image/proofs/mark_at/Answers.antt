-- Below the base there is no mark; from the base on, it is the byte at the distance.
use Rattle.acceptance.specs.Image.{mark_at}
use borrow.Author.Tests.{le-leb, lt-leb}
use Rattle.image.proofs.mark_at.Goals as goal

pub returns-then-address-base : goal.returns-then-address-base
unfolding mark_at
returns-then-address-base c = rw (lt-leb c.args.base c.args.address c.if-address-base.true)

pub returns : goal.returns
unfolding mark_at
returns c =
    rw (le-leb c.args.base c.args.address c.if-address-base.false) c.byte_at.ensures
