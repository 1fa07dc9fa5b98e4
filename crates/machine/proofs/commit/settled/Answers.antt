-- The widths of the definition, from the same bits; kept widths are those before.
use mathlib.Core.Path.{refl, sym, ◌∙◌}
use Rattle.codepages.proofs.Unpacked.{kept_effect}
use Rattle.instructions.specs.Successors.{m_after, x_after}
use Rattle.machine.proofs.Committed.{m_at_most, x_at_most}
use Rattle.machine.proofs.commit.settled.Goals as goal

pub with_widths-requires : goal.with_widths-requires
with_widths-requires c = (c.bit_at.ensures.1, c.bit_at-then-keeps_widths.ensures.1)

pub with_widths-requires-2 : goal.with_widths-requires-2
with_widths-requires-2 c =
    let effect = c.effect_of-effect.result in
    let operand = c.args.i.operand in (
      rw c.m_after-m.ensures (m_at_most effect c.bit_at-2.result operand c.bit_at-2.ensures.1),
      rw c.x_after-x.ensures (x_at_most effect c.bit_at-3.result operand c.bit_at-3.ensures.1),
    )

pub returns-then-keeps_widths : goal.returns-then-keeps_widths
unfolding m_after x_after
returns-then-keeps_widths c =
    let number = c.args.i.number in
    c.with_widths.ensures
    ∙ rw (
      kept_effect number (sym c.keeps_widths.ensures ∙ c.if-keeps_widths.true),
      c.bit_at.ensures.0,
      c.bit_at-then-keeps_widths.ensures.0,
    ) refl

pub returns : goal.returns
returns c =
    c.with_widths-2.ensures
    ∙ rw (
      c.m_after-m.ensures,
      c.x_after-x.ensures,
      c.bit_at-2.ensures.0,
      c.bit_at-3.ensures.0,
      c.effect_of-effect.ensures,
    ) refl
