-- A flag as a number.
-- Assumes nothing.
use mathlib.Core.Path.{◌≡◌, refl}
use mathlib.Core.Bool.{Bool, true, false}
use mir.Val.{bool_byte}
use Rattle.prelude.specs.Choice.{bit}

-- the library's conversion of a flag gives its bit
pub as_bit : (flag : Bool) → bool_byte flag ≡ bit flag
as_bit true = refl
as_bit false = refl
