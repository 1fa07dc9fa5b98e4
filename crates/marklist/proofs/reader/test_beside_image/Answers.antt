-- Where 1 or 2 of the image refuses, that stays; then comes 2 of an old list.
use mathlib.Core.Path.{refl, sym}
use Rattle.std.proofs.lemmas.Result.{err_from_is_err_and}
use Rattle.acceptance.specs.Verdict.{image_tests}
use Rattle.acceptance.proofs.Image.{right_length}
use Rattle.types.proofs.TestResults.{shown, passes, fails, holds}
use Rattle.marklist.proofs.Reading.{image_fails, image_passes}
use mathlib.Core.Path.{ap}
use mathlib.Core.Bool.{not}
use Rattle.marklist.proofs.reader.test_beside_image.Goals as goal

pub returns-in_err-test_image : goal.returns-in_err-test_image
returns-in_err-test_image c =
    let args = c.args in
    let p = err_from_is_err_and c.from_residual.result c.from_residual.ensures.1 in
    rw (p.1, p.2) (image_fails args.old args.image args.marks args.base c.in_err-test_image.ensures refl)

pub bank_fits-requires : goal.bank_fits-requires
bank_fits-requires c =
    let args = c.args in
    (right_length args.image args.marks
    (shown (image_tests args.image args.marks args.base) (sym c.in_ok-test_image.ensures)).0).few

pub returns-then-not-bank_fits : goal.returns-then-not-bank_fits
returns-then-not-bank_fits c =
    let args = c.args in
    image_passes args.old args.image args.marks args.base c.in_ok-test_image.ensures
    c.bank_fits.ensures
    (fails _ _ refl (ap not c.if-not-bank_fits.true))

pub returns : goal.returns
returns c =
    let args = c.args in
    image_passes args.old args.image args.marks args.base c.in_ok-test_image.ensures
    c.bank_fits.ensures
    (holds _ _ refl (ap not c.if-not-bank_fits.false) passes)
