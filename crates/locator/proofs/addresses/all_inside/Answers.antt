-- Each address is compared with both ends.
use Rattle.std.proofs.Common.{rules}
use borrow.Author.Tests.{tests}
use Rattle.std.proofs.lemmas.Iterator.{cases_from_all, YieldsList-from_slice}
use Rattle.locator.proofs.Order.{IsInside, IsOutside, inside_by}
use Rattle.locator.proofs.addresses.all_inside.Goals as goal

pub returns : goal.returns
returns c =
    let args = c.args in
    inside_by args.base args.size args.addresses.now _
    (cases_from_all _ _ _ (IsInside args.base args.size) (IsOutside args.base args.size) c.all.ensures.ran
    (YieldsList-from_slice args.addresses.now cc) (λ x q k. search (rules, tests)) (λ x q k. search (rules, tests)))
