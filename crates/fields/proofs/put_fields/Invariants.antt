-- The invariant: the fields that are left, put into the bytes as they are, give what is promised.
use Rattle.fields.proofs.Writing.{AllLeft}
use Rattle.fields.proofs.put_fields.Given as goal

abbrev pub invariant-loop-value : goal.invariant-loop-value
invariant-loop-value l = AllLeft l.initial.bytes l.from l.size l.values l.bytes l.at l.value-index
