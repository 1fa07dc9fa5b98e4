-- The invariant: the starts of the places before this one stand in the order.
use mathlib.Core.Path.{◌≡◌}
use lib.ListN.{length}
use Rattle.builder.proofs.Starts.{Listing}
use Rattle.builder.proofs.order.list_starts.Given as goal

abbrev pub invariant-loop-at : goal.invariant-loop-at
invariant-loop-at l = Listing l.marks l.order.places l.order.count l.at
    × (length l.order.places ≡ length l.initial.order.places)
