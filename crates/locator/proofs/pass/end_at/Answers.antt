-- The length of what is decoded is that of the layout, which fits into the image.
use native.Mathlib.Omega.{arith}
use Rattle.decoder.proofs.Layouts.{fits_at}
use Rattle.locator.proofs.pass.end_at.Goals as goal

pub overflow_add-result : goal.overflow_add-result
overflow_add-result c =
    let args = c.args in
    omega (
      arith,
      fits_at args.image.now args.at c.mark_m.result c.mark_x.result c.layout_at.result
          c.layout_at.ensures c.in-Ok.layout c.in-Ok.is,
    )
