-- Word by word; PG and DT are the two bytes of one.
use native.Mathlib.Omega.{arith}
use Rattle.statebytes.proofs.Whole.{words_head}
use Rattle.statebytes.proofs.words_of.Goals as goal

pub returns : goal.returns
returns c =
    words_head c.args.core c.from.result c.word_of.result c.from.ensures
    c.word_of.ensures (omega arith)
