-- Decimal mode, then the reads, then the operation's effect, as the definition has them.
use Rattle.std.proofs.lemmas.Result.{err_from_is_err_and}
use mathlib.Core.Path.{refl}
use Rattle.semantics.specs.Memory.{memory}
use Rattle.machine.specs.StepResults.{goes_on_by}
use Rattle.machine.proofs.Finishing.{none_read}
use Rattle.machine.proofs.Operating.{stops_decimal, stops_unmapped, works_on}
use Rattle.machine.proofs.flows.operates.Goals as goal

pub returns-then-is_decimal : goal.returns-then-is_decimal
returns-then-is_decimal c =
    let a = c.args in
    stops_decimal a.i (memory a.ram.now a.image.now a.base) a.i.place a.depth a.registers.now
    (goes_on_by a.branches a.i a.i.place) c.task_at-task.result c.operand_use_of-access.result
    c.task_at-task.ensures c.operand_use_of-access.ensures c.is_decimal.result
    c.is_decimal.ensures c.if-is_decimal.true

pub returns-in_err-given : goal.returns-in_err-given
returns-in_err-given c =
    let a = c.args in
    let p = err_from_is_err_and c.from_residual.result c.from_residual.ensures.1 in
    let q = none_read c.data_of.result _ _ c.in_err-given.ensures.value in
    rw (p.1, p.2, q.1)
    (stops_unmapped a.i (memory a.ram.now a.image.now a.base) a.i.place a.depth a.registers.now
    (goes_on_by a.branches a.i a.i.place) c.task_at-task.result c.operand_use_of-access.result
    c.task_at-task.ensures c.operand_use_of-access.ensures c.is_decimal.result
    c.is_decimal.ensures c.if-is_decimal.false c.width_of.result
    c.width_of.ensures _ refl c.is_set.result
    c.is_set.ensures c.is_set-2.result c.is_set-2.ensures
    c.is_short-short.result c.is_short-short.ensures c.mode_of-mode.result
    c.mode_of-mode.ensures c.accumulator_of-named.result
    c.accumulator_of-named.ensures c.data_of.result c.data_of.ensures q.0)

pub invariant_of-operands : goal.invariant_of-operands
invariant_of-operands c = record { bounded = (c.number.ensures.1, c.args.i.bounded.1) }

pub finish-requires : goal.finish-requires
finish-requires c = c.effect_by-effect.ensures.1

pub returns : goal.returns
returns c =
    let a = c.args in
    works_on a.i (memory a.ram.now a.image.now a.base) a.i.place a.depth a.registers.now
    (goes_on_by a.branches a.i a.i.place) c.task_at-task.result c.operand_use_of-access.result
    c.task_at-task.ensures c.operand_use_of-access.ensures c.is_decimal.result
    c.is_decimal.ensures c.if-is_decimal.false c.width_of.result
    c.width_of.ensures _ refl c.is_set.result
    c.is_set.ensures c.is_set-2.result c.is_set-2.ensures
    c.is_short-short.result c.is_short-short.ensures c.mode_of-mode.result
    c.mode_of-mode.ensures c.accumulator_of-named.result
    c.accumulator_of-named.ensures c.data_of.result c.data_of.ensures _
    c.in_ok-given.ensures.ok_part a.i.inside
    c.number.result (rw (c.next_address.ensures, c.address.ensures) at c.number.ensures.0)
    c.effect_by-effect.result c.effect_by-effect.ensures.0 c.goes-to.result c.goes-to.ensures
    c.finish.result c.finish.new.registers c.finish.new.ram c.finish.ensures
