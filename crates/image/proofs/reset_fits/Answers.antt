-- The mark at the reset address is compared with 01.
use Rattle.acceptance.specs.Image.{reset_fits}
use Rattle.image.proofs.reset_fits.Goals as goal

pub returns : goal.returns
unfolding reset_fits
returns c = rw c.mark_at.ensures
