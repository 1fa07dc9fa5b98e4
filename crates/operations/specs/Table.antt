-- A table of tasks is right where each task does what its operation does.
-- Assumes nothing.
use Rattle.std.specs.Prelude.{ℕ, ◌+◌, ◌*◌, ◌/◌, ◌%◌, ◌≡◌, Bool, List, eqb, get_or}
use Rattle.types.specs.declared.code.Accumulator.{Accumulator}
use Rattle.types.specs.declared.code.Mode.{Mode}
use Rattle.types.specs.declared.code.Operation.{Operation}
use Rattle.types.specs.declared.machine.Data.{Data}
use Rattle.semantics.specs.Addressing.{operand_use_of}
use Rattle.prelude.specs.Choice.{pick}
use Rattle.semantics.specs.Effects.{effect_of}
use Rattle.codepages.specs.Packing.{unpacked}
use Rattle.cpu.specs.File.{registers_of}
use Rattle.actions.specs.Tasks.{unpacked_task}
use Rattle.actions.specs.ActionEffects.{effect_by}

-- a task does what an operation does
abbrev pub Does : Accumulator → Operation → ℕ → Type 0
Does named operation n =
    ((unpacked_task n).access ≡ operand_use_of operation)
    × ((mode : Mode) (short : Bool) (operand next : ℕ) (d : Data) (file : List ℕ)
    → effect_by mode short operand next d file (unpacked_task n)
    ≡ effect_of mode named short operand next d (registers_of file) operation)

-- which of its operation's two tasks an entry has: the second one where it names B
abbrev pub column_of : ℕ → ℕ
column_of n = pick (eqb (n / 4096 % 4) 2) 1 0

-- one of the two tasks that a number keeps: the second is more by what stands above 16 bits
abbrev pub part : ℕ → ℕ → ℕ
part column both = both % 65536 + column * (both / 65536)

-- every entry's task in a table does what the entry's operation does
unfoldable pub Tasked : List ℕ → Type 0
Tasked table =
    (n : ℕ) → Does (unpacked n).accumulator (unpacked n).operation (part (column_of n) (get_or table (n % 128) 0))
