-- A run's end as the code has it, beside what is lent to it, as the definition's.
-- Assumes nothing.
use Rattle.std.specs.Prelude.{ℕ, List, Ok}
use Rattle.runs.specs.declared.steps.RunResult.{RunResult}
use Rattle.execution.specs.Run.{Ran}
use Rattle.machine.specs.StepResults.{state}

abbrev pub left_by : RunResult → List ℕ → List ℕ → Ran
left_by t calls ram =
    record { answer = Ok t.ended; state = state t.core calls; ram = ram }
