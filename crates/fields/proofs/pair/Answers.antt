-- The word of two bytes is the number of the part that they make.
use native.Mathlib.Omega.{arith}
use Rattle.fields.proofs.Words.{two_at}
use Rattle.fields.proofs.pair.Goals as goal

pub returns : goal.returns
returns c =
    let value = two_at c.args.bytes.now c.args.at c.requires in
    (rw c.word_of.ensures value, omega arith)
