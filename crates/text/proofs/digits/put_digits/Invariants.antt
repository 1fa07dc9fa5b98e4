-- The invariant: the digits that are left and the page from i on are the whole that is to be written.
use mathlib.Core.List.{◌++◌}
use mathlib.Core.Path.{◌≡◌}
use lib.ListN.{drop}
use Rattle.text.specs.Digits as spec
use Rattle.text.proofs.digits.put_digits.Given as goal

abbrev pub invariant-loop-i : goal.invariant-loop-i
invariant-loop-i g l = (spec.digits l.radix l.i (g.N.InDigits.number l.rest) ++ drop l.i l.page ≡ spec.digits l.radix
    l.count (g.N.InDigits.number l.fn.n) ++ drop l.count
    l.initial.page)
