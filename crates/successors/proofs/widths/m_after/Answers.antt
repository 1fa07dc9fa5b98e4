-- SEM and CLM say m outright; SEP and CLP go by its bit of their operand.
use mathlib.Core.Path.{refl}
use Rattle.instructions.specs.Successors.{m_after}
use Rattle.successors.proofs.widths.m_after.Goals as goal

pub returns-in-KeepWidths : goal.returns-in-KeepWidths
unfolding m_after
returns-in-KeepWidths c = rw c.in-KeepWidths.is refl

pub returns-in-SetM : goal.returns-in-SetM
unfolding m_after
returns-in-SetM c = rw c.in-SetM.is refl

pub returns-in-ClearM : goal.returns-in-ClearM
unfolding m_after
returns-in-ClearM c = rw c.in-ClearM.is refl

pub returns-in-SetBits : goal.returns-in-SetBits
unfolding m_after
returns-in-SetBits c = rw c.in-SetBits.is c.set_bit.ensures

pub returns-in-ClearBits : goal.returns-in-ClearBits
unfolding m_after
returns-in-ClearBits c = rw c.in-ClearBits.is c.clear_bit.ensures
