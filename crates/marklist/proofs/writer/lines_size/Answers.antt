-- The sizes of the lines, added, are the length of all, and each is small.
use Rattle.std.proofs.Common.{rules, arith, ◌≡◌, ◌∙◌, sym}
use Rattle.std.proofs.lemmas.Iterator.{YieldsList-from_slice}
use Rattle.std.proofs.lemmas.Iterator.Adapters.{fits_from_length, at_most_from_yields_List}
use Rattle.std.specs.List.{sum_by}
use Rattle.lists.specs.MarkList.{new_digits, line_size}
use Rattle.lists.proofs.MarkList.{size_most}
use Rattle.marklist.proofs.Walks.{lines_measured}
use Rattle.marklist.proofs.writer.lines_size.Goals as goal

pub sum-requires-clause-fits : goal.sum-requires-clause-fits
sum-requires-clause-fits c =
    fits_from_length _ _ 65_536 _
    (at_most_from_yields_List (YieldsList-from_slice c.args.marks.now cc) c.requires)
    c.map.ensures.closure (omega arith)
    (λ x r q k.
    let size : r ≡ line_size new_digits x.now = search rules in
    (search rules, omega (arith, size, size_most new_digits x.now)))

pub returns : goal.returns
returns c address =
    let added : c.sum.result ≡ sum_by (line_size new_digits) c.args.marks.now = search rules in
    added ∙ sym (lines_measured new_digits address c.args.marks.now)
