-- What calls answer: what was asked for, or why it is refused.
-- Assumes nothing.
use Rattle.std.specs.Prelude.{ℕ, Result, Err, Ok, Option}
use Rattle.types.specs.declared.code.Instruction.{Instruction}
use Rattle.types.specs.declared.code.Undecoded.{Undecoded}
use Rattle.types.specs.declared.lists.Header.{Header}
use Rattle.types.specs.declared.machine.Completion.{Completion}
use Rattle.types.specs.declared.machine.Stop.{Stop}
use Rattle.types.specs.declared.refusals.Refusal.{Refusal}
use Rattle.types.specs.declared.refusals.Refused.{Refused}
use Rattle.types.specs.declared.runs.Ended.{Ended}

-- what tests come to: all passed, or the refusal of the first that failed
abbrev pub TestResult : Type 0
TestResult = Result (Unit {0}) Refusal

-- the check's answer: accepted, or the first rule that is broken, and its offset
abbrev pub Verdict : Type 0
Verdict = Result (Unit {0}) Refused

-- a refusal that is about no instruction
abbrev pub without_offset : Refusal → Refused
without_offset why = record { why = why; offset = 0 }

-- a refusal about an offset, of whatever was asked for
abbrev pub refused_at : {A : Type 0} → Refusal → ℕ → Result A Refused
refused_at why offset = Err (record { why = why; offset = offset })

-- what stands at a place of an image
abbrev pub Decoded : Type 0
Decoded = Result Instruction Undecoded

-- the reader's answer; what it read beside the marks is the first line
abbrev pub ListRead : Type 0
ListRead = Result Header Refusal

-- the writer's answer; a written list has its length in bytes
abbrev pub ListWritten : Type 0
ListWritten = Result ℕ Refusal

-- what a printed page is answered with: the length of the rows
abbrev pub Printed : Type 0
Printed = Result ℕ Refused

-- what the addresses that a bus probe delivers are answered with: the number of marks read
abbrev pub Located : Type 0
Located = Result ℕ Refused

-- whether stores can be served; if not, what stops the step
abbrev pub Served : Type 0
Served = Result (Unit {0}) Stop

-- how a step ended: completed, and whether as a call, or stopped
abbrev pub StepAnswer : Type 0
StepAnswer = Result Completion Stop

-- how a run ended: by which stop, if by one; else all asked steps are done
abbrev pub End : Type 0
End = Option Stop

-- a run's answer: the refusal, or the end, the steps completed and the calls among them
abbrev pub RunAnswer : Type 0
RunAnswer = Result Ended Refusal

abbrev pub ended_by : End → ℕ → ℕ → RunAnswer
ended_by end steps calls = Ok (record { end = end; steps = steps; calls = calls })
