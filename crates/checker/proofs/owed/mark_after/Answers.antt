-- The widths after are bits, as those before.
use Rattle.acceptance.proofs.Widths.{m_after_bit, x_after_bit}
use Rattle.checker.proofs.owed.mark_after.Goals as goal

pub mark_of-requires : goal.mark_of-requires
mark_of-requires c = (
  rw c.m_after-m.ensures
      (m_after_bit _ _ _ c.mark_m.ensures.1),
  rw c.x_after-x.ensures (x_after_bit _ _ _ c.mark_x.ensures.1),
  c.mark_kind.ensures.1,
  c.return_m.ensures.1,
  c.return_x.ensures.1,
)
