-- A list that is refused leaves the page as it was; with room for the longest line there is always room.
use mathlib.Core.Path.{refl, sym, ◌∙◌}
use native.Mathlib.Omega.{arith}
use Rattle.explanation.proofs.ExplainedLaws.{list_refused, explained_by}
use Rattle.explanation.proofs.put_explanation.Goals as goal

pub returns-in_default : goal.returns-in_default
returns-in_default c =
    let args = c.args in
    let none = list_refused args.image.now args.text.now args.marks.now c.requires.0 _
    (sym c.read_list.ensures.answer ∙ c.in_default.is) in
    (rw none refl, rw none refl, omega arith)

pub returns : goal.returns
returns c =
    let args = c.args in
    explained_by args.image.now args.text.now args.marks.now c.read_list.new.marks args.page.now c.explain.new.page
    c.in-Ok.h c.explain.result _ c.requires.0 (sym c.read_list.ensures.answer ∙ c.in-Ok.is)
    c.read_list.ensures.marks c.requires.1 c.explain.ensures.short c.explain.ensures.page c.explain.ensures.answer
    c.unwrap_or.ensures
