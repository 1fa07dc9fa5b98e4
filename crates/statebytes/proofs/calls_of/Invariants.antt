-- The invariant: the entries before the next one are in their places.
use Rattle.std.proofs.Common.{ℕ, ◌≡◌, ◌<◌, get_or}
use Rattle.statebytes.proofs.Entries.{entry}
use Rattle.statebytes.proofs.calls_of.Given as goal

abbrev pub invariant-loop-i : goal.invariant-loop-i
invariant-loop-i l = (k : ℕ) → k < l.i → get_or l.call-items k 0 ≡ entry l.bytes k
