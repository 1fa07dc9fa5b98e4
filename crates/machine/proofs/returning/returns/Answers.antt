-- The pulls, then the return.
use Rattle.std.proofs.lemmas.Result.{err_from_is_err_and}
use mathlib.Core.Path.{refl}
use Rattle.semantics.specs.Memory.{memory}
use Rattle.machine.proofs.Finishing.{none_read}
use Rattle.machine.proofs.Calling.{stops_pulling, pulls_so}
use Rattle.machine.proofs.returning.returns.Goals as goal

pub returns-in_err-ok_or : goal.returns-in_err-ok_or
returns-in_err-ok_or c =
    let a = c.args in
    let p = err_from_is_err_and c.from_residual.result c.from_residual.ensures.1 in
    let q = none_read c.pulls_return-pulled.result _ _ c.in_err-ok_or.ensures.value in
    rw (p.1, p.2, q.1)
    (λ calls. stops_pulling a.i (memory a.mapped.now.ram.now a.mapped.now.image.now a.mapped.now.base) a.i.place a.depth a.registers.now calls a.opened
    a.kind c.pulls_return-pulled.result (c.pulls_return-pulled.ensures a.depth a.registers.now refl) q.0)

pub returns : goal.returns
returns c =
    let a = c.args in
    λ calls. pulls_so a.i (memory a.mapped.now.ram.now a.mapped.now.image.now a.mapped.now.base) a.i.place a.depth a.registers.now calls a.opened a.kind
    c.pulls_return-pulled.result (c.pulls_return-pulled.ensures a.depth a.registers.now refl) _ _
    c.in_ok-ok_or.ensures.ok_part (c.returns_to.ensures (memory a.mapped.now.ram.now a.mapped.now.image.now a.mapped.now.base) calls)
