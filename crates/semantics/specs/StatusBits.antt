-- SEP and CLP as steps. Their flags (Arithmetic) and their widths (Successors) go together: once fetched, neither
-- stops, and the number of the status after the step is its number before, bitwise with the byte behind the code. IPL,
-- above that byte, stays.
-- Assumes nothing.
use Rattle.types.specs.declared.machine.Completion.{Completion}
use Rattle.std.specs.Prelude.{◌≡◌, ℕ, ◌<◌, Ok}
use Rattle.std.specs.Int.Bits.{bit_or}
use Rattle.types.specs.declared.code.Operation.{Operation}
use Rattle.types.specs.declared.code.Instruction.{Instruction}
use Rattle.types.specs.declared.machine.State.{State}
use Rattle.types.specs.Status.{number_of}
use Rattle.anywidth.specs.AnyWidth.{size, low, cleared_by}
use Rattle.semantics.specs.Memory.{Memory}
use Rattle.semantics.specs.Step.{fetched, step}

abbrev pub ps : State → ℕ
ps s = number_of s.core.registers.status

abbrev pub byte_behind : Instruction → ℕ
byte_behind i = low 8 i.operand

-- manual, SEP: PSL ← PSL ∨ IMM
abbrev pub SepSets : Type 0
SepSets =
    (m : Memory) (s : State) (i : Instruction) → fetched m s.core ≡ Ok i
    → i.entry.operation ≡ Operation.SEP
    → ((step m s).answer ≡ Ok Completion.Ordinary) × (ps (step m s).state ≡ bit_or (ps s) (byte_behind i))

-- manual, CLP: PSL ← PSL ∧ not IMM, as CLB clears bits of data
abbrev pub ClpClears : Type 0
ClpClears =
    (m : Memory) (s : State) (i : Instruction) → fetched m s.core ≡ Ok i
    → i.entry.operation ≡ Operation.CLP
    → ps s < size 16
    → ((step m s).answer ≡ Ok Completion.Ordinary) × (ps (step m s).state ≡ cleared_by 16 (byte_behind i) (ps s))
