-- The invariant: the digits of the rest come to those that are counted.
use Rattle.text.proofs.Turns.{Counted}
use Rattle.text.proofs.digits.digit_count.Given as goal

abbrev pub invariant-loop-i : goal.invariant-loop-i
invariant-loop-i g l = Counted l.radix l.most (g.N.InDigits.number l.fn.n) l.i (g.N.InDigits.number l.rest)
