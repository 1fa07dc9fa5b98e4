-- A whole instruction is performed; anything else that is fetched is a stop.
use mathlib.Core.Path.{◌≡◌, refl, ap, ◌∙◌}
use Rattle.std.specs.Prelude.{Err}
use Rattle.semantics.specs.Memory.{memory}
use Rattle.std.proofs.lemmas.Result.{IfOk-at_ok}
use Rattle.machine.proofs.Finishing.{left_kept}
use Rattle.machine.proofs.Stepping.{step_whole, step_uncarried, step_outside}
use Rattle.machine.proofs.step.step_in.Goals as goal

pub returns-in-Ok : goal.returns-in-Ok
returns-in-Ok c =
    let a = c.args in
    step_whole (memory a.ram.now a.image.now a.base) a.place a.depth a.registers.now a.calls.now c.fetch_at.result
    c.wrapped.result c.wrapped.ensures (c.fetch_at.ensures.fetched a.ram.now) _ c.in-Ok.i c.in-Ok.is
    (left_kept a.place a.depth c.perform.result c.perform.new.registers c.perform.new.calls c.perform.new.ram
    ∙ rw (← IfOk-at_ok (λ i. i.place ≡ c.wrapped.result) c.in-Ok.is c.fetch_at.ensures.here ∙ c.wrapped.ensures)
    c.perform.ensures)

pub returns-in-Err-NotCarried : goal.returns-in-Err-NotCarried
returns-in-Err-NotCarried c =
    let a = c.args in
    step_uncarried (memory a.ram.now a.image.now a.base) a.place a.depth a.registers.now a.calls.now c.fetch_at.result
    c.wrapped.result c.wrapped.ensures (c.fetch_at.ensures.fetched a.ram.now) _
    (c.in-Err-NotCarried.is ∙ ap Err c.in-Err-NotCarried.field-0-is) refl

pub returns-in-Err-CutOff : goal.returns-in-Err-CutOff
returns-in-Err-CutOff c =
    let a = c.args in
    step_outside (memory a.ram.now a.image.now a.base) a.place a.depth a.registers.now a.calls.now c.fetch_at.result
    c.wrapped.result c.wrapped.ensures (c.fetch_at.ensures.fetched a.ram.now) _
    (c.in-Err-CutOff.is ∙ ap Err c.in-Err-CutOff.field-0-is) refl
