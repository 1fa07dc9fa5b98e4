-- A start is listed, another place passed over.
use mathlib.Core.Path.{sym, ◌∙◌}
use native.Mathlib.Omega.{arith}
use lib.ListN.{length-set}
use Rattle.builder.proofs.Starts.{listed_start, passed_over, all_listed}
use Rattle.builder.proofs.order.list_starts.Goals as goal
use Rattle.builder.proofs.order.list_starts.Goals.{then-is_start, else-is_start}

pub loop-at-preserved : goal.loop-at-preserved
loop-at-preserved c =
    let inv = c.loop-at.invariant in
    let marks = c.args.marks.now in
    elim c.if-is_start.branch [
      | then-is_start w ↦
          rw (w.order-is, w.push.ensures.0, w.push.ensures.1) (
            listed_start marks c.loop-at.order.places c.loop-at.order.count c.loop-at.at inv.0 (omega arith)
                (omega (arith, inv.0.few, inv.1, c.requires.3)) (sym c.is_start.ensures ∙ w.if-is_start.true),
            rw length-set inv.1,
          )
      | else-is_start w ↦
          rw w.order-is (
            passed_over marks c.loop-at.order.places c.loop-at.order.count c.loop-at.at inv.0 (omega arith)
                (sym c.is_start.ensures ∙ w.if-is_start.false),
            inv.1,
          )
    ]

pub returns : goal.returns
returns c =
    let inv = c.loop-at.invariant in
    all_listed c.args.marks.now c.loop-at.order.places c.loop-at.order.count c.loop-at.at inv.0 (omega arith)
    (omega (arith, inv.1, c.requires.3)) c.requires.0
