-- A length of 0 fails the first test, one past the limit the second; else the number of marks decides.
use Rattle.types.specs.Addresses.{image_limit}
use Rattle.acceptance.specs.Image.{length_fits}
use native.Mathlib.Omega.{arith}
use borrow.Author.Tests.{lt-ltb, le-leb, lt-leb}
use Rattle.image.proofs.length_fits.Goals as goal

pub returns-then-image-eq0 : goal.returns-then-image-eq0
unfolding length_fits
returns-then-image-eq0 c = rw c.if-image-eq0.true

pub returns-then-image-gt-IMAGE_LIMIT : goal.returns-then-image-gt-IMAGE_LIMIT
unfolding length_fits
returns-then-image-gt-IMAGE_LIMIT c =
    rw (
      lt-ltb 0 c.args.image (omega arith),
      lt-leb c.args.image image_limit c.if-image-gt-IMAGE_LIMIT.true,
    )

pub returns : goal.returns
unfolding length_fits
returns c =
    rw (
      lt-ltb 0 c.args.image (omega arith),
      le-leb c.args.image image_limit c.if-image-gt-IMAGE_LIMIT.false,
    )
