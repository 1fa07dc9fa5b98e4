-- The widths after an instruction are bits, and the registers that are put are the definition's at those widths.
-- Assumes nothing.
use mathlib.Core.Path.{◌≡◌, ap, ◌∙◌}
use mathlib.Core.List.{List}
use Prim.Native.Nat.{ℕ, ◌/◌, ◌%◌, ◌≤◌}
use native.Mathlib.Omega.{arith}
use lib.Dec.{eqb}
use lib.ListN.{length, get_or, set}
use Rattle.cpu.specs.declared.effects.Effect.{Effect}
use Rattle.cpu.specs.File.{registers_of, put, file_size}
use Rattle.cpu.specs.CodeEffects.{as_effect, InFile}
use Rattle.cpu.proofs.Files.{put_three}
use Rattle.types.specs.declared.code.WidthEffect.{WidthEffect}
use Rattle.semantics.specs.Arithmetic.{with_status, with_widths}
use Rattle.instructions.specs.Successors.{m_after, x_after}
use Rattle.types.specs.Status.{mask_m, mask_x, is_set, status_of}
use Rattle.prelude.specs.Choice.{bit}
use Rattle.semantics.specs.Step.{widths_after}
use Rattle.prelude.proofs.Choice.{one_of}
use Rattle.machine.specs.declared.fetched.Fetched.{Fetched}
use Rattle.machine.specs.Fetches.{instruction}

pub m_at_most : (effect : WidthEffect) (m operand : ℕ) → m ≤ 1 → m_after effect m operand ≤ 1
unfolding m_after
m_at_most WidthEffect.KeepWidths m operand h = h
m_at_most WidthEffect.SetM m operand h = omega arith
m_at_most WidthEffect.ClearM m operand h = omega arith
m_at_most WidthEffect.SetBits m operand h = one_of (eqb (operand / 32 % 2) 1) 1 m (omega arith) h
m_at_most WidthEffect.ClearBits m operand h = one_of (eqb (operand / 32 % 2) 1) 0 m (omega arith) h

pub x_at_most : (effect : WidthEffect) (x operand : ℕ) → x ≤ 1 → x_after effect x operand ≤ 1
unfolding x_after
x_at_most WidthEffect.KeepWidths x operand h = h
x_at_most WidthEffect.SetM x operand h = h
x_at_most WidthEffect.ClearM x operand h = h
x_at_most WidthEffect.SetBits x operand h = one_of (eqb (operand / 16 % 2) 1) 1 x (omega arith) h
x_at_most WidthEffect.ClearBits x operand h = one_of (eqb (operand / 16 % 2) 1) 0 x (omega arith) h

-- two registers and then the status at the widths after its instruction
pub put_settled : (file : List ℕ) (e : Effect) (i : Fetched) (n : ℕ) → length file ≡ file_size → InFile e
    → status_of n
    ≡ with_widths (eqb (m_after (instruction i).entry.effect (bit (is_set mask_m (get_or file 7 0))) i.operand) 1)
    (eqb (x_after (instruction i).entry.effect (bit (is_set mask_x (get_or file 7 0))) i.operand) 1)
    (status_of e.status)
    → registers_of (set (set (set file e.first e.value) e.second e.other) 7 n)
    ≡ widths_after (instruction i) (registers_of file) (as_effect e (registers_of file)).registers
put_settled file e i n long placed same =
    put_three file e.first e.value e.second e.other n long placed.0 placed.1
    ∙ ap (λ s. with_status s (put e.second e.other (put e.first e.value (registers_of file)))) same
