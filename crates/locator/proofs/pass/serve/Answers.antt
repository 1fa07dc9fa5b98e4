-- By the test of where the address lies.
use lib.ListN.{get_or}
use Rattle.locator.proofs.Passes.{served_here}
use Rattle.locator.proofs.pass.serve.Goals as goal

pub returns : goal.returns
returns c =
    let args = c.args in
    served_here args.image.now args.base (get_or args.addresses.now args.state.served 0) args.at
    args.state args.places.now c.end_of-end.result c.place_number.result c.if-addresses-k.false
    c.end_of-end.ensures c.place_number.ensures
