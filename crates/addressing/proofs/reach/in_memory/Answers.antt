-- The address first, then, unless it is asked alone, the data there.
use mathlib.Core.Path.{sym, refl, ◌∙◌}
use Rattle.cpu.specs.File.{registers_of}
use Rattle.memory.proofs.Views.{read_on, read_off}
use Rattle.semantics.specs.Addressing.{address_of, data_at}
use Rattle.semantics.specs.Memory.{memory, ret, ◌>>=◌, read_data}
use Rattle.addressing.proofs.Pointers.{nowhere}
use Rattle.addressing.proofs.reach.in_memory.Goals as goal

pub returns-in_err-address : goal.returns-in_err-address
returns-in_err-address c =
    let a = c.args in
    rw c.from_residual.ensures
    (nowhere (memory a.mapped.now.ram.now a.mapped.now.image.now a.mapped.now.base) a.mode (registers_of a.registers.now) a.short a.operand a.alone
    c.in_err-address.ensures)

pub returns-then-alone : goal.returns-then-alone
returns-then-alone c =
    let a = c.args in
    rw c.if-alone.true
    (sym (read_on (memory a.mapped.now.ram.now a.mapped.now.image.now a.mapped.now.base) (address_of a.mode (registers_of a.registers.now) a.operand)
    (λ at. ret (data_at at 0)) _ c.in_ok-address.ensures _ refl))

pub returns-in_err-value : goal.returns-in_err-value
returns-in_err-value c =
    let a = c.args in
    let m = memory a.mapped.now.ram.now a.mapped.now.image.now a.mapped.now.base in
    rw (c.from_residual-in_err-value.ensures, c.if-alone.false)
    (sym (read_on m (address_of a.mode (registers_of a.registers.now) a.operand)
    (λ at. read_data a.short at >>= (λ v. ret (data_at at v))) _ c.in_ok-address.ensures _ refl
    ∙ read_off m (read_data a.short c.in_ok-address.address) (λ v. ret (data_at c.in_ok-address.address v)) _
    c.in_err-value.ensures refl))

pub returns : goal.returns
returns c =
    let a = c.args in
    let m = memory a.mapped.now.ram.now a.mapped.now.image.now a.mapped.now.base in
    rw c.if-alone.false
    (sym (read_on m (address_of a.mode (registers_of a.registers.now) a.operand)
    (λ at. read_data a.short at >>= (λ v. ret (data_at at v))) _ c.in_ok-address.ensures _ refl
    ∙ read_on m (read_data a.short c.in_ok-address.address) (λ v. ret (data_at c.in_ok-address.address v)) _
    c.in_ok-value.ensures _ refl))
