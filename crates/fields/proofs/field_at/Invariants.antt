-- The invariant: the value is the number of the field's bytes from i on.
use Rattle.fields.proofs.FieldReading.{Read}
use Rattle.fields.proofs.field_at.Given as goal

abbrev pub invariant-loop-i : goal.invariant-loop-i
invariant-loop-i l = Read l.bytes l.at l.size l.value l.i
