-- Each column is what its function gives.
use Rattle.printer.proofs.rows.mark_columns.Goals as goal

pub returns : goal.returns
returns c =
    rw (
      c.digit-m.ensures,
      c.mark_m.ensures.0,
      c.digit-x.ensures,
      c.mark_x.ensures.0,
      c.kind_letter-kind.ensures,
      c.mark_kind.ensures.0,
    )
