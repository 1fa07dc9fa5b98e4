-- What is remembered of all marks says whether each has the form.
use Rattle.std.proofs.Common.{rules, ◌≡◌, ◌∙◌, sym, refl, ap, eqb}
use Rattle.std.specs.List.{fold}
use Rattle.prelude.proofs.Searches.{none_by_all}
use Rattle.acceptance.specs.Image.{is_formed}
use Rattle.acceptance.specs.Verdict.{bad_mark, unformed_at}
use Rattle.image.proofs.Forms.{told, all_told}
use Rattle.image.proofs.all_formed.Goals as goal

pub returns : goal.returns
unfolding bad_mark
returns c =
    let marks = c.args.marks.now in
    let folded : c.fold.result ≡ fold told 0 marks = search rules in
    ap (λ n. eqb n 0) folded ∙ all_told marks
    ∙ sym (none_by_all (unformed_at marks) is_formed marks (λ k inside. refl))
