-- A layout that is read at a place fits there.
use mathlib.Core.Path.{refl}
use Rattle.std.specs.Prelude.{Ok}
use Rattle.decoder.proofs.Layouts.{fits_at}
use Rattle.places.proofs.place.Place.instruction.Goals as goal

pub invariant_of-result : goal.invariant_of-result
invariant_of-result c = record {
  fits = fits_at c.args.self.now.image.now c.args.self.now.at _ _ (Ok c.in_ok-layout.layout) c.in_ok-layout.ensures _
      refl;
}
