-- The layout decides what is decoded, or why nothing is.
use mathlib.Core.Path.{refl}
use Rattle.decoder.proofs.Layouts.{fits_at}
use Rattle.decoder.proofs.decode_at.Goals as goal

pub instruction_at-requires : goal.instruction_at-requires
instruction_at-requires c =
    let args = c.args in
    fits_at args.image.now args.at args.m args.x _ c.in_ok-layout.ensures _ refl
