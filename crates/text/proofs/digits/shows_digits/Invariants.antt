-- The invariant: the text begins with all digits exactly when it begins with those that are left.
use mathlib.Core.Path.{◌≡◌}
use Rattle.text.specs.Digits as spec
use Rattle.text.specs.Text.{starts_with}
use Rattle.text.proofs.digits.shows_digits.Given as goal

abbrev pub invariant-loop-i : goal.invariant-loop-i
invariant-loop-i l = starts_with (spec.digits l.radix l.count l.n) l.text ≡ starts_with
    (spec.digits l.radix l.i l.rest) l.text
