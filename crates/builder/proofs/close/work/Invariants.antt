-- The invariant: whatever the routines and the reset are, what was begun with their starts goes on. The measure is how
-- many places the image has that were not gone through.
use mathlib.Core.Path.{◌≡◌}
use mathlib.Core.List.{List}
use Prim.Native.Nat.{ℕ, ◌-◌}
use lib.ListN.{length}
use Rattle.builder.specs.Order.{Queue, Working}
use Rattle.builder.proofs.close.work.Given as goal

abbrev pub invariant-loop-done : goal.invariant-loop-done
invariant-loop-done l = Queue l.marks l.order.places l.order.count
    × (length l.marks ≡ length l.initial.marks)
    × ((reset : ℕ) (routines : List ℕ)
    → Working l.image l.base reset routines l.initial.marks l.initial.order.places l.initial.order.count 0
    → Working l.image l.base reset routines l.marks l.order.places l.order.count l.done)

abbrev pub decreases-loop-done : goal.decreases-loop-done
decreases-loop-done l = length l.initial.marks - l.done
