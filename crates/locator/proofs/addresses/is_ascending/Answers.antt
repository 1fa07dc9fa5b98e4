-- Each address is compared with the next.
use Rattle.std.proofs.Common.{rules, ltb}
use Rattle.std.proofs.lemmas.List.Sorted.{answers_always}
use Rattle.locator.proofs.Order.{ascending_by}
use Rattle.locator.proofs.addresses.is_ascending.Goals as goal

pub returns : goal.returns
returns c =
    ascending_by c.args.addresses.now _
    (c.is_sorted_by.ensures.cases ltb (answers_always _ _ _ (λ f a r f' k. search rules)))
