-- Piece behind piece, of the requirement that is named.
use Rattle.std.proofs.Common.{append_assoc}
use Rattle.reports.specs.Explanation as spec
use Rattle.explainer.proofs.starts.put_widths.Goals as goal

pub returns : goal.returns
unfolding spec.widths_at spec.widths_text
returns c =
    rw (
      ← c.first_with_other_mark-k.ensures,
      ← c.requirement_at-named.ensures,
      ← c.is_free.ensures,
      ← c.mark_at.ensures,
      c.push_fields-2.ensures,
      c.push_text-2.ensures,
      c.push_fields.ensures,
      c.push_text.ensures,
      c.push_hex.ensures,
    ) (simp append_assoc)
