-- 14 comes first; where 1 or 2 refuses, that stays; the reset address is looked for only in a list.
use Rattle.lists.specs.MarkList.{list_tests}
use Rattle.types.proofs.TestResults.{passes, fails, holds, ends, goes_on}
use mathlib.Core.Path.{ap, refl}
use Rattle.std.proofs.lemmas.Result.{err_from_is_err_and}
use mathlib.Core.Bool.{not}
use Rattle.marklist.proofs.reader.test_list.Goals as goal

pub returns-then-not-is_list : goal.returns-then-not-is_list
returns-then-not-is_list c = fails _ _ c.is_list.ensures (ap not c.if-not-is_list.true)

pub returns-in_err-test_beside_image : goal.returns-in_err-test_beside_image
returns-in_err-test_beside_image c =
    let p = err_from_is_err_and c.from_residual.result c.from_residual.ensures.1 in
    rw (p.1, p.2)
    (holds _ _ c.is_list.ensures (ap not c.if-not-is_list.false)
    (ends (list_tests c.args.old c.args.h.length c.args.marks c.args.h.base) _ c.in_err-test_beside_image.ensures
    refl))

pub reset_shown-requires : goal.reset_shown-requires
reset_shown-requires c =
    rw c.is_list.ensures at c.if-not-is_list.false

pub returns-then-not-reset_shown : goal.returns-then-not-reset_shown
returns-then-not-reset_shown c =
    holds _ _ c.is_list.ensures (ap not c.if-not-is_list.false)
    (goes_on (list_tests c.args.old c.args.h.length c.args.marks c.args.h.base) _ c.in_ok-test_beside_image.ensures
    refl
    (fails _ _ c.reset_shown.ensures (ap not c.if-not-reset_shown.true)))

pub returns : goal.returns
returns c =
    holds _ _ c.is_list.ensures (ap not c.if-not-is_list.false)
    (goes_on (list_tests c.args.old c.args.h.length c.args.marks c.args.h.base) _ c.in_ok-test_beside_image.ensures
    refl
    (holds _ _ c.reset_shown.ensures (ap not c.if-not-reset_shown.false) passes))
