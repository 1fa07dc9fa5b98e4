-- The invariant: what is left of the run, with the steps and calls so far, is the whole run.
use Rattle.runs.proofs.RunInvariant.{RunInvariant}
use Rattle.machine.specs.StepResults.{core_at}
use Rattle.runs.proofs.steps.run_steps.Given as goal

abbrev pub invariant-loop-steps : goal.invariant-loop-steps
invariant-loop-steps l =
    RunInvariant l.image l.base l.initial.calls l.initial.ram
    (core_at l.initial.place l.initial.depth l.initial.registers) l.asked l.calls l.ram l.registers l.place l.depth
    l.steps l.made
