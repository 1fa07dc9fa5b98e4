-- A step's end as the code has it, beside what is lent to it, as the definition's.
-- Assumes nothing.
use Rattle.std.specs.Prelude.{ℕ, ◌/◌, ◌%◌, Bool, List, Result, Ok, Err}
use Rattle.cpu.specs.File.{registers_of}
use Rattle.machine.specs.declared.commit.Completed.{Completed}
use Rattle.machine.specs.declared.fetched.Fetched.{Fetched}
use Rattle.machine.specs.Fetches.{instruction}
use Rattle.types.specs.declared.machine.Core.{Core}
use Rattle.types.specs.declared.machine.State.{State}
use Rattle.types.specs.declared.machine.Stop.{Stop}
use Rattle.prelude.specs.Choice.{pick}
use Rattle.types.specs.Addresses.{bank_size}
use Rattle.instructions.specs.Successors.{next_address, target_address}
use Rattle.semantics.specs.Memory.{Memory}
use Rattle.semantics.specs.Step.{Plan, Stepped, stepped, finish}

abbrev pub state : Core → List ℕ → State
state c calls = record { core = c; calls = calls }

-- a core out of the place of execution, of which 24 bits count, the number of open calls and the register file
abbrev pub core_at : ℕ → ℕ → List ℕ → Core
core_at place depth file = record {
  registers = registers_of file;
  pc = place % bank_size;
  pg = place / bank_size % 256;
  depth = depth;
}

abbrev pub StepResult : Type 0
StepResult = Result Completed Stop

-- what a step leaves; one that stops leaves the place of execution and the open calls as they were
abbrev pub left : ℕ → ℕ → StepResult → List ℕ → List ℕ → List ℕ → Stepped
left place depth (Ok c) file calls ram =
    stepped (Ok c.completion) (state (core_at c.place c.depth file) calls) ram
left place depth (Err stop) file calls ram = stepped (Err stop) (state (core_at place depth file) calls) ram

-- what a plan for an instruction comes to
abbrev pub finished : Plan → Fetched → Memory → ℕ → ℕ → List ℕ → List ℕ → Stepped
finished p i m place depth file calls = finish p (instruction i) m (state (core_at place depth file) calls)

-- where an operation goes on
abbrev pub goes_on_by : Bool → Fetched → ℕ → Bool → ℕ
goes_on_by branches i place taken =
    pick branches (pick taken (target_address (instruction i) place) (next_address place i.length))
    (next_address place i.length)
