-- A start that calls what is not on the list is the first; else none is found.
use mathlib.Core.Path.{sym, ◌∙◌}
use native.Mathlib.Omega.{arith}
use Rattle.builder.proofs.Answering.{one_stray, none_stray}
use Rattle.builder.proofs.listed.all_listed.Goals as goal

pub returns-then-is_stray : goal.returns-then-is_stray
returns-then-is_stray c =
    let args = c.args in
    one_stray args.image.now args.marks.now.bytes.now args.marks.now.base args.routines.now.bytes.now c.loop-at.at
    c.loop-at.invariant (omega (arith, c.requires.0))
    (rw c.requires.1 at (sym c.is_stray.ensures ∙ c.if-is_stray.true))

pub returns : goal.returns
returns c =
    let args = c.args in
    none_stray args.image.now args.marks.now.bytes.now args.marks.now.base args.routines.now.bytes.now c.loop-at.at
    c.loop-at.invariant (omega (arith, c.requires.0)) (omega (arith, c.requires.0))
