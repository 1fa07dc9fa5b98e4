-- A run of a state that is given as bytes: `m7700_run` and `m7700_step` of include/m7700.h.
-- Assumes nothing.
use Rattle.std.specs.Prelude.{ℕ, Bool, ◌&&◌, List, eqb, length, Ok, Err}
use Rattle.types.specs.Answers.{TestResult, RunAnswer}
use Rattle.types.specs.Refusals.{first_refusal}
use Rattle.semantics.specs.Memory.{Memory}
use Rattle.execution.specs.Run.{state_fits, run_tests, Ran, executed}
use Rattle.execution.specs.StateBytes.{state_size, state_of, state_bytes}

-- number 12 for bytes: so many of them, and the state that they are fits
abbrev pub bytes_fit : List ℕ → Bool
bytes_fit bytes = eqb (length bytes) state_size && state_fits (state_of bytes)

-- A run's answer, and the state's bytes and RAM after it.
pub record RanBytes : Type 0 where
  pub answer : RunAnswer
  pub state : List ℕ
  pub ram : List ℕ

-- the same of a run whose state is not bytes
abbrev pub as_bytes : Ran → RanBytes
as_bytes r = record { answer = r.answer; state = state_bytes r.state; ram = r.ram }

-- 'A refusal leaves every buffer and the state as given'
abbrev pub ran_bytes_by : TestResult → Memory → List ℕ → ℕ → RanBytes
ran_bytes_by (Ok _) m bytes asked = as_bytes (executed m (state_of bytes) asked)
ran_bytes_by (Err why) m bytes asked = record { answer = Err why; state = bytes; ram = m.ram }

unfoldable pub ran_bytes : Memory → List ℕ → ℕ → RanBytes
ran_bytes m bytes asked = ran_bytes_by (first_refusal (run_tests m (bytes_fit bytes) asked)) m bytes asked
