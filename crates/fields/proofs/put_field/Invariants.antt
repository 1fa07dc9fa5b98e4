-- The invariant: the field's bytes that are left, put into the bytes as they are, give what is promised.
use Rattle.fields.proofs.Writing.{Left}
use Rattle.fields.proofs.put_field.Given as goal

abbrev pub invariant-loop-byte : goal.invariant-loop-byte
invariant-loop-byte l = Left l.initial.byte-items l.size l.given l.byte-items l.value l.byte-index
