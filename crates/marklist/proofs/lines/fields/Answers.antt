-- Each digit and the kind's letter stand between their tabs, so that the eleven bytes are the definition's.
use Rattle.lists.specs.MarkList as spec
use Rattle.marklist.proofs.lines.fields.Goals as goal

pub returns : goal.returns
unfolding spec.fields
returns c =
    rw (
      c.digit-m.ensures,
      c.mark_m.ensures.0,
      c.digit-x.ensures,
      c.mark_x.ensures.0,
      c.kind_letter-kind.ensures,
      c.mark_kind.ensures.0,
      c.digit-rm.ensures,
      c.return_m.ensures.0,
      c.digit-rx.ensures,
      c.return_x.ensures.0,
    )
