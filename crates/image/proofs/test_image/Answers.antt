-- Length, then base: the first that fails gives its refusal, and where both hold there is none.
use Rattle.types.proofs.TestResults.{passes, fails, holds}
use mathlib.Core.Path.{ap}
use mathlib.Core.Bool.{not}
use Rattle.image.proofs.test_image.Goals as goal

pub returns-then-not-length_fits : goal.returns-then-not-length_fits
returns-then-not-length_fits c = fails _ _ c.length_fits.ensures (ap not c.if-not-length_fits.true)

pub returns-then-not-base_fits : goal.returns-then-not-base_fits
returns-then-not-base_fits c =
    holds _ _ c.length_fits.ensures (ap not c.if-not-length_fits.false)
    (fails _ _ c.base_fits.ensures (ap not c.if-not-base_fits.true))

pub returns : goal.returns
returns c =
    holds _ _ c.length_fits.ensures (ap not c.if-not-length_fits.false)
    (holds _ _ c.base_fits.ensures (ap not c.if-not-base_fits.false) passes)
