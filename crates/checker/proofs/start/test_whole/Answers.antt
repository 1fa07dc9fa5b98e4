-- Behind 7 the tests come in two parts: 10 where nothing is owed, 8 and 9 where something is.
use Rattle.std.proofs.Common.{◌+◌, get_or, sym, refl, ◌∙◌, inl, inr}
use Rattle.types.proofs.TestResults.{fails, holds}
use Rattle.checker.proofs.Owes.{marks_of_starts, something_owed, nothing_owed}
use Rattle.places.specs.Placed.{instruction_in}
use mathlib.Core.Path.{ap}
use mathlib.Core.Bool.{not}
use Rattle.checker.proofs.start.test_whole.Goals as goal

pub returns-then-not-is_clear : goal.returns-then-not-is_clear
returns-then-not-is_clear c = fails _ _ c.is_clear.ensures (ap not c.if-not-is_clear.true)

pub test_owed-requires : goal.test_owed-requires
test_owed-requires c =
    let place = c.args.i.now.place in
    rw c.owed_there-owed.ensures (marks_of_starts place.marks.bytes.now place.marks.base (instruction_in c.args.i.now)
    (place.marks.base + place.at) (get_or place.marks.bytes.now place.at 0))

pub returns-in-Nothing : goal.returns-in-Nothing
returns-in-Nothing c =
    let place = c.args.i.now.place in
    holds _ _ c.is_clear.ensures (ap not c.if-not-is_clear.false)
    (nothing_owed place.marks.bytes.now place.marks.base (instruction_in c.args.i.now)
    (place.marks.base + place.at) (get_or place.marks.bytes.now place.at 0)
    (sym c.owed_there-owed.ensures ∙ c.in-Nothing.is)
    (rw (c.flow_of.ensures, c.mark.ensures) at c.test_return.ensures))

pub returns-in-One : goal.returns-in-One
returns-in-One c =
    let place = c.args.i.now.place in
    let owed = c.owed_there-owed.ensures in
    holds _ _ c.is_clear.ensures (ap not c.if-not-is_clear.false)
    (something_owed place.marks.bytes.now place.marks.base (instruction_in c.args.i.now)
    (place.marks.base + place.at) (get_or place.marks.bytes.now place.at 0)
    (rw (← owed)
    (elim c.in-One.is [ inl (w, e) ↦ rw e refl | inr (v, w, e) ↦ rw e refl ])) (rw owed at c.test_owed.ensures))
