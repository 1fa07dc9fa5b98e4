-- The marks are those of the image's length.
use native.Mathlib.Omega.{arith}
use lib.ListN.{length}
use lib.Seq.{length-take-le}
use Rattle.explanation.proofs.put_alone.Goals as goal

pub put_explanation-requires : goal.put_explanation-requires
put_explanation-requires c =
    let args = c.args in (
      length-take-le (length args.image.now) c.zeros-marks.result
          (omega (arith, c.zeros-marks.ensures.size, c.requires.0)),
      c.requires.1,
    )
