use mathlib.Core.Path.{refl, sym, ◌∙◌}
use native.Mathlib.Omega.{arith}
use borrow.Author.Tests.{eq-eqb, ne_eqb}
use lib.ListN.{get_or}
use Rattle.text.proofs.Turns.{starts_short, starts_next, starts_all}
use borrow.Author.Rules.{rules}
use Rattle.text.proofs.bytes.starts_with.Goals as goal

pub returns-then-text-bytes : goal.returns-then-text-bytes
returns-then-text-bytes c =
    sym (starts_short c.args.bytes.now c.args.text.now c.if-text-bytes.true)

pub loop-i-init : goal.loop-i-init
loop-i-init c = (search rules, refl)

pub returns-then-bytes-i : goal.returns-then-bytes-i
returns-then-bytes-i c =
    let loop = c.loop-i in
    sym (loop.invariant.1 ∙ starts_next c.args.bytes.now c.args.text.now loop.i
    c.loop-i-test.true (omega arith)
    ∙ rw (ne_eqb (get_or c.args.bytes.now loop.i 0) (get_or c.args.text.now loop.i 0)
    c.if-bytes-i.true))

pub loop-i-preserved : goal.loop-i-preserved
loop-i-preserved c =
    let loop = c.loop-i in (
      omega arith,
      loop.invariant.1 ∙ starts_next c.args.bytes.now c.args.text.now loop.i
          c.loop-i-test.true (omega arith)
          ∙ rw (eq-eqb (get_or c.args.bytes.now loop.i 0) (get_or c.args.text.now loop.i 0)
          c.if-bytes-i.false),
    )

pub returns : goal.returns
returns c =
    let loop = c.loop-i in
    sym (loop.invariant.1 ∙ starts_all c.args.bytes.now c.args.text.now loop.i loop.invariant.0
    c.loop-i-test.false)
