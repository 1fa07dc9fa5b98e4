-- Each step is one of the run's; the last, or the stop, leaves what the run leaves.
use Rattle.runs.proofs.RunInvariant.{made_of, begins, ends, goes_on, stops_so}
use Rattle.machine.specs.StepResults.{state, core_at}
use Rattle.types.specs.declared.machine.Core.{Core}
use Rattle.execution.specs.Run.{Ran, executed}
use Rattle.semantics.specs.Memory.{memory}
use Rattle.semantics.specs.Step.{is_call}
use Rattle.prelude.specs.Choice.{bit}
use Rattle.std.specs.Prelude.{Ok}
use Prim.Native.Nat.{◌+◌}
use native.Mathlib.Omega.{arith}
use mathlib.Core.Path.{◌≡◌, refl, ap, ◌∙◌}
use Rattle.runs.proofs.steps.run_steps.Goals as goal
use Rattle.runs.proofs.steps.run_steps.Goals.{in-Ordinary, in-Call}

pub loop-steps-init : goal.loop-steps-init
loop-steps-init c =
    let a = c.args in
    let file = c.file_of-registers.result in
    let place = c.place_of-place.result in
    begins a.image.now a.base a.calls.now a.ram.now (core_at place a.given.depth file) a.asked file place c.requires.2
    refl

pub loop-steps-preserved : goal.loop-steps-preserved
loop-steps-preserved c =
    let loop = c.loop-steps in
    let a = c.args in
    let how : c.match-completed.made ≡ loop.made + bit (is_call (Ok c.in-Ok.completed.completion)) =
    elim c.match-completed.branch [
      | in-Ordinary w ↦ rw w.in-Ordinary.is (omega arith)
      | in-Call w ↦ rw w.in-Call.is (omega arith)
    ] in
    goes_on a.image.now a.base a.calls.now a.ram.now
    (core_at c.place_of-place.result a.given.depth c.file_of-registers.result) a.asked
    loop.calls loop.ram loop.registers loop.place loop.depth loop.steps loop.made loop.invariant c.loop-steps-test.true
    c.step_in.new.calls c.step_in.new.ram c.step_in.new.registers c.in-Ok.completed c.in-Ok.ensures
    c.match-completed.made how

pub returns-in-Err : goal.returns-in-Err
returns-in-Err c =
    let loop = c.loop-steps in
    let a = c.args in
    let file = c.file_of-registers.result in
    let place = c.place_of-place.result in
    let all : Core → Ran = λ given. executed (memory a.ram.now a.image.now a.base) (state given a.calls.now) a.asked in
    stops_so a.image.now a.base a.calls.now a.ram.now (core_at place a.given.depth file) a.asked
    loop.calls loop.ram loop.registers loop.place loop.depth loop.steps loop.made loop.invariant c.loop-steps-test.true
    c.step_in.new.calls c.step_in.new.ram c.step_in.new.registers c.in-Err.stop c.in-Err.ensures
    c.core_of.result c.core_of.ensures
    ∙ ap all (made_of a.given place file c.file_of-registers.ensures.0 c.place_of-place.ensures.1
    c.place_of-place.ensures.2)

pub returns : goal.returns
returns c =
    let loop = c.loop-steps in
    let a = c.args in
    let file = c.file_of-registers.result in
    let place = c.place_of-place.result in
    let all : Core → Ran = λ given. executed (memory a.ram.now a.image.now a.base) (state given a.calls.now) a.asked in
    ends a.image.now a.base a.calls.now a.ram.now (core_at place a.given.depth file) a.asked
    loop.calls loop.ram loop.registers loop.place loop.depth loop.steps loop.made loop.invariant
    c.loop-steps-test.false a.asked (omega (arith, loop.invariant.within, c.loop-steps-test.false))
    c.core_of-2.result c.core_of-2.ensures
    ∙ ap all (made_of a.given place file c.file_of-registers.ensures.0 c.place_of-place.ensures.1
    c.place_of-place.ensures.2)
