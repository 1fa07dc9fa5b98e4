-- Where 1 or 2 refuses, that stays; else RAM, the state and the number of steps decide, in that order.
use Rattle.std.proofs.lemmas.Result.{err_from_is_err_and}
use mathlib.Core.Path.{refl, sym, ap}
use mathlib.Core.Bool.{true, false, not}
use native.Mathlib.Omega.{arith}
use borrow.Author.Tests.{lt-leb, le-leb}
use lib.ListN.{length}
use Rattle.types.specs.Runs.{step_limit}
use Rattle.acceptance.specs.Verdict.{image_tests}
use Rattle.types.proofs.TestResults.{passes, fails, holds, ends, goes_on}
use Rattle.runs.proofs.bytes.test_run.Goals as goal

pub returns-in_err-test_image : goal.returns-in_err-test_image
returns-in_err-test_image c =
    let n = length c.args.image.now in
    let p = err_from_is_err_and c.from_residual.result c.from_residual.ensures.1 in
    rw (p.1, p.2) (ends (image_tests n n c.args.base) _ c.in_err-test_image.ensures refl)

pub returns-then-not-ram_fits : goal.returns-then-not-ram_fits
returns-then-not-ram_fits c =
    let n = length c.args.image.now in
    goes_on (image_tests n n c.args.base) _ c.in_ok-test_image.ensures refl
    (fails _ _ c.ram_fits.ensures (ap not c.if-not-ram_fits.true))

pub returns-then-not-fits : goal.returns-then-not-fits
returns-then-not-fits c =
    let n = length c.args.image.now in
    goes_on (image_tests n n c.args.base) _ c.in_ok-test_image.ensures refl
    (holds _ _ c.ram_fits.ensures (ap not c.if-not-ram_fits.false) (fails _ _ refl (ap not c.if-not-fits.true)))

pub returns-then-asked-gt-STEP_LIMIT : goal.returns-then-asked-gt-STEP_LIMIT
returns-then-asked-gt-STEP_LIMIT c =
    let n = length c.args.image.now in
    let over = lt-leb c.args.asked step_limit c.if-asked-gt-STEP_LIMIT.true in
    goes_on (image_tests n n c.args.base) _ c.in_ok-test_image.ensures refl
    (holds _ _ c.ram_fits.ensures (ap not c.if-not-ram_fits.false)
    (holds _ _ refl (ap not c.if-not-fits.false) (fails {given = false} _ _ (sym over) refl)))

pub returns : goal.returns
returns c =
    let n = length c.args.image.now in
    let few = le-leb c.args.asked step_limit (omega (arith, c.if-asked-gt-STEP_LIMIT.false)) in
    goes_on (image_tests n n c.args.base) _ c.in_ok-test_image.ensures refl
    (holds _ _ c.ram_fits.ensures (ap not c.if-not-ram_fits.false)
    (holds _ _ refl (ap not c.if-not-fits.false) (holds {given = true} _ _ (sym few) refl passes)))
