-- The code behind a prefix, if the first byte is one.
use Rattle.decoder.proofs.Layouts.{one_prefix, coded_nothing, coded_short, coded_carried, coded_uncarried}
use native.Mathlib.Omega.{arith}
use mathlib.Core.Path.{sym, ◌∙◌}
use Rattle.decoder.proofs.code_behind_prefix.Goals as goal

pub returns-then-page-eq0 : goal.returns-then-page-eq0
returns-then-page-eq0 c =
    coded_nothing c.args.image.now c.args.at c.page_of-page.result c.page_of-page.ensures.0
    c.if-page-eq0.true c.requires.0 c.requires.1

pub returns-then-image-at-le1 : goal.returns-then-image-at-le1
returns-then-image-at-le1 c =
    let args = c.args in
    coded_short args.image.now args.at c.page_of-page.result 1
    (one_prefix c.page_of-page.result c.if-page-eq0.false) (sym c.page_of-page.ensures.0) c.if-image-at-le1.true

pub returns-then-not-is_carried : goal.returns-then-not-is_carried
returns-then-not-is_carried c =
    coded_uncarried c.args.image.now c.args.at c.page_of-page.result 1
    (one_prefix c.page_of-page.result c.if-page-eq0.false) (sym c.page_of-page.ensures.0)
    c.packed_at-number.result (omega (arith, c.if-image-at-le1.false))
    c.packed_at-number.ensures
    (sym c.is_carried.ensures ∙ c.if-not-is_carried.true)

pub returns : goal.returns
returns c =
    coded_carried c.args.image.now c.args.at c.page_of-page.result 1
    (one_prefix c.page_of-page.result c.if-page-eq0.false) (sym c.page_of-page.ensures.0)
    c.packed_at-number.result (omega (arith, c.if-image-at-le1.false))
    c.packed_at-number.ensures
    (sym c.is_carried.ensures ∙ c.if-not-is_carried.false)
