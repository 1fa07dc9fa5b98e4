-- The place that the library finds is the definition's.
use Rattle.std.proofs.Common.{rules, ◌≡◌, ◌∙◌, sym, refl, not, true, false}
use Rattle.std.proofs.lemmas.Iterator.{IsFirst-from_position, YieldsList-from_slice}
use borrow.Author.Tests.{tests}
use Rattle.prelude.proofs.Searches.{first_by_position}
use Rattle.acceptance.specs.Image.{is_formed}
use Rattle.acceptance.specs.Verdict.{bad_mark, unformed_at}
use Rattle.image.proofs.bad_mark.Goals as goal

pub returns : goal.returns
unfolding bad_mark
returns c =
    let marks = c.args.marks.now in
    let found =
    IsFirst-from_position _ _ c.position.result (λ m. not (is_formed m) ≡ true) (λ m. not (is_formed m) ≡ false)
    c.position.ensures.ran (YieldsList-from_slice marks cc) (λ x q k. search (rules, tests))
    (λ x q k. search (rules, tests)) in
    c.unwrap_or.ensures
    ∙ sym (first_by_position (unformed_at marks) (λ m. not (is_formed m)) marks (λ k inside. refl) _ found)
