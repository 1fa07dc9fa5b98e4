-- The invariant: the places that stand already and those of the pass over what is left are those of the whole pass.
use Prim.Native.Nat.{◌-◌, ◌≤◌}
use lib.ListN.{length}
use Rattle.locator.specs.Passing.{last_of, KnownEnd}
use Rattle.locator.proofs.Passes.{Passes}
use Rattle.locator.proofs.pass.pass_marks.Given as goal

abbrev pub invariant-loop-state : goal.invariant-loop-state
invariant-loop-state l = Passes l.image l.marks.bytes.now l.marks.base l.addresses l.initial.places l.places
    l.state.served
    (last_of l.state) l.i
    × (l.state.start ≤ l.i)
    × KnownEnd l.image l.state

abbrev pub decreases-loop-state : goal.decreases-loop-state
decreases-loop-state l = length l.marks.bytes.now - l.i
