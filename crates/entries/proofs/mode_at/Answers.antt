-- Keys 1 to 27 are the modes in the list's order; any other number is the first, Implied.
use mathlib.Core.Path.{refl}
use Rattle.prelude.proofs.Match.{no_key}
use Rattle.codepages.specs.Packing.{modes}
use Rattle.entries.proofs.mode_at.Goals as goal

pub returns-in_default : goal.returns-in_default
returns-in_default c = no_key modes _ _ refl c.in_default.in_default-own.rest
