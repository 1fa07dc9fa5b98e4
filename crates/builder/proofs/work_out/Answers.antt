-- The marks that are made begin as those of the routines; the check and the list say whether they are admitted.
use mathlib.Core.Path.{◌≡◌, sym, subst, ◌∙◌}
use Rattle.builder.specs.Order.{Closed}
use Rattle.builder.proofs.Answering.{copied, not_accepted, accepted_then}
use Rattle.builder.proofs.work_out.Goals as goal

pub returns-then-packed_verdict-ne0 : goal.returns-then-packed_verdict-ne0
returns-then-packed_verdict-ne0 c =
    let same : c.put_bytes.new.page ≡ c.args.routines.now =
    copied c.args.routines.now c.args.made.now c.put_bytes.new.page
    (c.requires.2 ∙ sym c.requires.1) c.put_bytes.ensures in
    let closed-up : Closed c.args.image.now c.args.base c.args.reset
    c.args.routines.now c.close_up.new.marks =
    let args = c.args in
    subst (λ l. Closed args.image.now args.base args.reset l c.close_up.new.marks) same
    c.close_up.ensures in
    let args = c.args in (
      closed-up,
      not_accepted args.image.now args.base args.reset args.routines.now
          c.close_up.new.marks c.packed_verdict.result c.packed_verdict.ensures
          c.if-packed_verdict-ne0.true,
    )

pub returns : goal.returns
returns c =
    let same : c.put_bytes.new.page ≡ c.args.routines.now =
    copied c.args.routines.now c.args.made.now c.put_bytes.new.page
    (c.requires.2 ∙ sym c.requires.1) c.put_bytes.ensures in
    let closed-up : Closed c.args.image.now c.args.base c.args.reset
    c.args.routines.now c.close_up.new.marks =
    let args = c.args in
    subst (λ l. Closed args.image.now args.base args.reset l c.close_up.new.marks) same
    c.close_up.ensures in
    let args = c.args in (
      closed-up,
      accepted_then args.image.now args.base args.reset args.routines.now
          c.close_up.new.marks c.packed_verdict.result c.packed_verdict.ensures
          c.if-packed_verdict-ne0.false
          closed-up.as_listed c.all_listed.result c.all_listed.ensures,
    )
