-- The invariant: the bytes before i agree.
use mathlib.Core.Path.{◌≡◌}
use Prim.Native.Nat.{◌≤◌}
use lib.ListN.{length, drop}
use Rattle.text.specs.Text.{starts_with}
use Rattle.text.proofs.bytes.starts_with.Given as goal

abbrev pub invariant-loop-i : goal.invariant-loop-i
invariant-loop-i l = (l.i ≤ length l.bytes) × (starts_with l.bytes l.text ≡ starts_with (drop l.i l.bytes)
    (drop l.i l.text))
