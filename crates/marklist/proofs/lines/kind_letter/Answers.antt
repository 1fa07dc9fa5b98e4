-- 0 and 1 have letters of their own, any other kind has L.
use Rattle.lists.specs.MarkList as spec
use borrow.Author.Tests.{eq-eqb, ne_eqb}
use Rattle.marklist.proofs.lines.kind_letter.Goals as goal

pub returns-then-kind-eq0 : goal.returns-then-kind-eq0
unfolding spec.kind_letter
returns-then-kind-eq0 c = rw (eq-eqb c.args.kind 0 c.if-kind-eq0.true)

pub returns-then-kind-eq1 : goal.returns-then-kind-eq1
unfolding spec.kind_letter
returns-then-kind-eq1 c =
    rw (ne_eqb c.args.kind 0 c.if-kind-eq0.false, eq-eqb c.args.kind 1 c.if-kind-eq1.true)

pub returns-else-kind-eq1 : goal.returns-else-kind-eq1
unfolding spec.kind_letter
returns-else-kind-eq1 c =
    rw (ne_eqb c.args.kind 0 c.if-kind-eq0.false, ne_eqb c.args.kind 1 c.if-kind-eq1.false)
