-- Field by field; each is small, so that the sum fits.
use Rattle.lists.specs.MarkList as spec
use Rattle.marklist.proofs.lines.fields_mark.Goals as goal

pub returns : goal.returns
unfolding spec.fields_mark
returns c =
    rw (
      c.bit_shown-m.ensures.0,
      c.byte_at.ensures,
      c.bit_shown-x.ensures.0,
      c.byte_at-2.ensures,
      c.kind_shown-kind.ensures.0,
      c.byte_at-3.ensures,
      c.bit_shown-rm.ensures.0,
      c.byte_at-4.ensures,
      c.bit_shown-rx.ensures.0,
      c.byte_at-5.ensures,
    ) at c.mark_of.ensures
