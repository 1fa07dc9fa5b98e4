-- The check's way over the places of an image: from a place that breaks no rule it goes on behind the instruction that
-- is read there, since no start stands on its later bytes.
-- Assumes nothing.
use Rattle.types.specs.declared.code.Undecoded.{Undecoded}
use Rattle.std.specs.Prelude.{ℕ, List, Result, Ok, Err}
use Rattle.types.specs.Answers.{Decoded, TestResult}
use Rattle.types.specs.declared.refusals.Refusal.{Refusal}
use Rattle.prelude.specs.Choice.{pick}
use Rattle.acceptance.specs.Rules.{instruction_at}
use Rattle.acceptance.specs.Verdict.{start_at, start_result}

-- how many bytes are stepped over
abbrev pub length_of : Decoded → ℕ
length_of (Ok i) = i.length
length_of (Err Undecoded.NotCarried) = 1
length_of (Err Undecoded.CutOff) = 1

unfoldable pub bytes_at : List ℕ → List ℕ → ℕ → ℕ
bytes_at image marks at =
    pick (start_at marks at) (length_of (instruction_at image marks at)) 1

-- the step at a place: the first rule that is broken there, or how many bytes are stepped over
abbrev pub passed : TestResult → ℕ → Result ℕ Refusal
passed (Ok _) bytes = Ok bytes
passed (Err why) bytes = Err why

abbrev pub step_at : List ℕ → List ℕ → ℕ → ℕ → Result ℕ Refusal
step_at image marks base at = passed (start_result image marks base at) (bytes_at image marks at)
