-- An effect as the code has it, two registers and the status by their numbers and its stores by value, read as the
-- definition's.
-- Assumes nothing.
use Rattle.std.specs.Prelude.{◌≡◌, ℕ, ◌<◌, Bool, List}
use Rattle.cpu.specs.declared.arithmetic.Worked.{Worked as CodeWork}
use Rattle.cpu.specs.declared.effects.Effect.{Effect as CodeEffect}
use Rattle.cpu.specs.File.{registers_of, put, file_size}
use Rattle.cpu.specs.FileEffects.{Worked, worked}
use Rattle.memory.specs.Listed.{listed}
use Rattle.memory.specs.declared.stores.Stores.{Stores}
use Rattle.types.specs.declared.machine.Registers.{Registers}
use Rattle.semantics.specs.Effects.{Effect, effect}
use Rattle.semantics.specs.Arithmetic.{with_status}
use Rattle.types.specs.Status.{status_of}

abbrev pub code_effect : ℕ → ℕ → ℕ → ℕ → ℕ → Stores → Bool → CodeEffect
code_effect first value second other status stores taken = record {
  first = first;
  value = value;
  second = second;
  other = other;
  status = status;
  stores = stores;
  taken = taken;
}

-- its registers are places of the file
abbrev pub InFile : CodeEffect → Type 0
InFile e = (e.first < file_size) × (e.second < file_size)

-- what an effect does to registers: both are put, then the status. Two effects that differ in which register is named
-- first, in the value for the status' place or in the upper byte of DT's are the same here.
abbrev pub as_effect : CodeEffect → Registers → Effect
as_effect e r =
    effect (with_status (status_of e.status) (put e.second e.other (put e.first e.value r)))
    (listed e.stores) e.taken

-- an effect of the code, from a register file, is one of the definition's, and names places of the file
abbrev pub Makes : CodeEffect → List ℕ → Effect → Type 0
Makes e file wanted = (as_effect e (registers_of file) ≡ wanted) × InFile e

-- what was worked out, its status by its number
abbrev pub as_worked : CodeWork → Worked
as_worked w = worked w.value (status_of w.status)
