-- The place that the library finds is the definition's.
use Rattle.std.proofs.Common.{rules, ◌≡◌, ◌∙◌, sym, true, false}
use Rattle.std.proofs.lemmas.Iterator.{first_from_Range}
use borrow.Author.Tests.{tests}
use Rattle.lists.specs.MarkList as spec
use lib.ListN.{drop}
use lib.Seq.{get_or-drop}
use Rattle.prelude.proofs.Searches.{first_in_range}
use Rattle.marklist.proofs.header.length_digits_shown.Goals as goal

pub returns : goal.returns
unfolding spec.length_digits_shown
returns c =
    let at_tab = spec.tab_at (drop 9 c.args.text.now) in
    let found =
    first_from_Range _ _ _ c.find.result (λ k. at_tab k ≡ true) (λ k. at_tab k ≡ false) c.find.ensures.ran
    (λ k q e. rw (get_or-drop 9 c.args.text.now k 0) (search (rules, tests)))
    (λ k q e. (search rules, rw (get_or-drop 9 c.args.text.now k 0) (search (rules, tests)))) in
    c.unwrap_or.ensures ∙ sym (first_in_range at_tab spec.digits_of_length _ found)
