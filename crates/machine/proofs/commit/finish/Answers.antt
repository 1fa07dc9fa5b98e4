-- A store that is not served stops; else all parts are changed.
use Rattle.std.proofs.lemmas.Result.{err_from_is_err_and}
use mathlib.Core.Path.{refl, sym}
use Rattle.cpu.specs.File.{registers_of}
use Rattle.cpu.specs.CodeEffects.{as_effect}
use Rattle.memory.specs.Listed.{listed}
use Rattle.types.specs.declared.machine.CallChange.{CallChange}
use Rattle.types.specs.declared.machine.Completion.{Completion}
use Rattle.semantics.specs.Memory.{memory}
use Rattle.machine.proofs.Finishing.{stops_at_stores, completes}
use Rattle.machine.proofs.commit.finish.Goals as goal

pub returns-in_err-served_all : goal.returns-in_err-served_all
returns-in_err-served_all c =
    let a = c.args in
    let after = (as_effect a.effect (registers_of a.registers.now)).registers in
    let p = err_from_is_err_and c.from_residual.result c.from_residual.ensures.1 in
    rw (p.1, p.2)
    (λ calls. stops_at_stores a.i (memory a.ram.now a.image.now a.base) a.i.place a.depth a.registers.now calls after
    a.to CallChange.Keep (listed a.effect.stores) _ (sym c.in_err-served_all.ensures))

pub returns : goal.returns
returns c =
    let a = c.args in
    let after = (as_effect a.effect (registers_of a.registers.now)).registers in
    λ calls. completes a.i (memory a.ram.now a.image.now a.base) a.i.place a.depth a.registers.now calls after a.to
    CallChange.Keep (listed a.effect.stores) Completion.Ordinary c.put.new.registers calls c.write.new.ram _
    c.number.ensures.0 refl (sym c.in_ok-served_all.ensures) c.put.ensures refl c.write.ensures
