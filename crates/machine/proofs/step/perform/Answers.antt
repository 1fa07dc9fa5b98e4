-- Each flow has its own function, and a halt stops at once.
use Rattle.machine.proofs.Stepping.{by_operation, by_jump, by_call, by_return, by_halt}
use Rattle.semantics.specs.Memory.{memory}
use mathlib.Core.Path.{refl}
use Rattle.machine.proofs.step.perform.Goals as goal

pub returns-in-Next : goal.returns-in-Next
returns-in-Next c =
    let a = c.args in
    by_operation a.i (memory a.ram.now a.image.now a.base) a.i.place a.depth a.registers.now a.calls.now a.i.inside
    c.flow_of-flow.result c.flow_of-flow.ensures _ c.in-Next.is c.is_branch.result c.is_branch.ensures
    (c.operates.ensures a.calls.now)

pub returns-in-Jump : goal.returns-in-Jump
returns-in-Jump c =
    let a = c.args in
    let m = memory a.ram.now a.image.now a.base in
    by_jump a.i m a.i.place a.depth a.registers.now a.calls.now a.i.inside
    c.flow_of-flow.result c.flow_of-flow.ensures _ c.in-Jump.is (c.jumps.ensures m a.calls.now)

pub returns-in-Call : goal.returns-in-Call
returns-in-Call c =
    let a = c.args in
    by_call a.i (memory a.ram.now a.image.now a.base) a.i.place a.depth a.registers.now a.calls.now a.i.inside
    c.flow_of-flow.result c.flow_of-flow.ensures _ _ c.in-Call.is c.calls_to.ensures

pub returns-in-Return : goal.returns-in-Return
returns-in-Return c =
    let a = c.args in
    by_return a.i (memory a.ram.now a.image.now a.base) a.i.place a.depth a.registers.now a.calls.now a.i.inside
    c.flow_of-flow.result c.flow_of-flow.ensures _ _ c.last_opened-opened.result
    c.in-Return.is c.last_opened-opened.ensures (c.returns.ensures a.calls.now)

pub returns-in-Halt : goal.returns-in-Halt
returns-in-Halt c =
    let a = c.args in
    by_halt a.i (memory a.ram.now a.image.now a.base) a.i.place a.depth a.registers.now a.calls.now a.i.inside
    c.flow_of-flow.result c.flow_of-flow.ensures _ c.in-Halt.is refl
