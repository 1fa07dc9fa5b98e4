-- Piece behind piece.
use Rattle.std.proofs.Common.{append_assoc}
use Rattle.reports.specs.Explanation as spec
use Rattle.explainer.proofs.starts.put_return.Goals as goal

pub returns : goal.returns
unfolding spec.return_text
returns c =
    rw (
      c.push_kind_widths-2.ensures,
      c.push_text-2.ensures,
      c.push_kind_widths.ensures,
      c.push_text.ensures,
      c.mark_m.ensures.0,
      c.mark_x.ensures.0,
      c.mark_kind.ensures.0,
      c.return_m.ensures.0,
      c.return_x.ensures.0,
    ) (simp append_assoc)
