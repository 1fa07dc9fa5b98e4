-- The operation asks for its mode's data, for what it pulls, or for a word of the direct page.
use mathlib.Core.Path.{sym, refl}
use Rattle.cpu.specs.File.{registers_of}
use Rattle.memory.proofs.Views.{read_on, read_off}
use Rattle.semantics.specs.Addressing.{data_of, data_at, pulled, direct}
use Rattle.semantics.specs.Memory.{memory, ret, read_word}
use Rattle.addressing.proofs.Pointers.{asked}
use Rattle.addressing.proofs.reach.data_of.Goals as goal

pub returns-in-Operand : goal.returns-in-Operand
returns-in-Operand c =
    let args = c.args in
    let law =
    asked args.mode args.named (registers_of args.registers.now) args.short args.operand
    args.access c.in-Operand.is in
    rw (law, ← c.is_address.ensures) c.operand_by.ensures

pub returns-in_err-value-in-Pull : goal.returns-in_err-value-in-Pull
unfolding data_of
returns-in_err-value-in-Pull c =
    let a = c.args in
    rw (c.from_residual.ensures, c.in-Pull.is)
    (sym (read_off (memory a.mapped.now.ram.now a.mapped.now.image.now a.mapped.now.base) (pulled a.short (registers_of a.registers.now))
    (λ v. ret (data_at 0 v)) _
    (rw (← c.pulled_at-first.ensures, ← c.pulled_at-second.ensures) c.in_err-value-in-Pull.ensures) refl))

pub returns-in_ok-value-in-Pull : goal.returns-in_ok-value-in-Pull
unfolding data_of
returns-in_ok-value-in-Pull c =
    let a = c.args in
    rw c.in-Pull.is
    (sym (read_on (memory a.mapped.now.ram.now a.mapped.now.image.now a.mapped.now.base) (pulled a.short (registers_of a.registers.now))
    (λ v. ret (data_at 0 v)) _
    (rw (← c.pulled_at-first.ensures, ← c.pulled_at-second.ensures) c.in_ok-value-in-Pull.ensures) _ refl))

pub returns-in_err-value-in-DirectWord : goal.returns-in_err-value-in-DirectWord
unfolding data_of
returns-in_err-value-in-DirectWord c =
    let a = c.args in
    rw (c.from_residual-in_err-value-in-DirectWord.ensures, c.in-DirectWord.is)
    (sym (read_off (memory a.mapped.now.ram.now a.mapped.now.image.now a.mapped.now.base)
    (read_word (direct (registers_of a.registers.now) a.operand)) (λ v. ret (data_at 0 v)) _
    (rw (← c.direct-page.ensures.0) c.in_err-value-in-DirectWord.ensures) refl))

pub returns-in_ok-value-in-DirectWord : goal.returns-in_ok-value-in-DirectWord
unfolding data_of
returns-in_ok-value-in-DirectWord c =
    let a = c.args in
    rw c.in-DirectWord.is
    (sym (read_on (memory a.mapped.now.ram.now a.mapped.now.image.now a.mapped.now.base)
    (read_word (direct (registers_of a.registers.now) a.operand)) (λ v. ret (data_at 0 v)) _
    (rw (← c.direct-page.ensures.0) c.in_ok-value-in-DirectWord.ensures) _ refl))
