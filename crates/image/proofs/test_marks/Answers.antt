-- Where 1 or 2 refuses, that stays; else the marks' form is tested, and behind it the reset.
use mathlib.Core.Path.{ap, refl}
use mathlib.Core.Bool.{not}
use lib.ListN.{length}
use Rattle.std.proofs.lemmas.Result.{err_from_is_err_and}
use Rattle.acceptance.specs.Verdict.{image_tests}
use Rattle.types.proofs.TestResults.{passes, fails, holds, ends, goes_on}
use Rattle.image.proofs.test_marks.Goals as goal

pub returns-in_err-test_image : goal.returns-in_err-test_image
returns-in_err-test_image c =
    let p = err_from_is_err_and c.from_residual.result c.from_residual.ensures.1 in
    rw (p.1, p.2)
    (ends (image_tests c.args.image (length c.args.marks.now) c.args.base) _ c.in_err-test_image.ensures refl)

pub returns-then-not-all_formed : goal.returns-then-not-all_formed
returns-then-not-all_formed c =
    goes_on (image_tests c.args.image (length c.args.marks.now) c.args.base) _ c.in_ok-test_image.ensures refl
    (fails _ _ c.all_formed.ensures (ap not c.if-not-all_formed.true))

pub returns-then-not-reset_fits : goal.returns-then-not-reset_fits
returns-then-not-reset_fits c =
    goes_on (image_tests c.args.image (length c.args.marks.now) c.args.base) _ c.in_ok-test_image.ensures refl
    (holds _ _ c.all_formed.ensures (ap not c.if-not-all_formed.false)
    (fails _ _ c.reset_fits.ensures (ap not c.if-not-reset_fits.true)))

pub returns : goal.returns
returns c =
    goes_on (image_tests c.args.image (length c.args.marks.now) c.args.base) _ c.in_ok-test_image.ensures refl
    (holds _ _ c.all_formed.ensures (ap not c.if-not-all_formed.false)
    (holds _ _ c.reset_fits.ensures (ap not c.if-not-reset_fits.false) passes))
