-- Where the code looks for what is asked.
-- Assumes nothing.
use Rattle.std.specs.Prelude.{ℕ, Bool, true, false}
use Rattle.types.specs.declared.code.Mode.{Mode}
use Rattle.types.specs.declared.code.Accumulator.{Accumulator as Named}
use Rattle.types.specs.declared.machine.OperandUse.{OperandUse}
use Rattle.types.specs.declared.machine.Data.{Data}
use Rattle.types.specs.declared.machine.Registers.{Registers}
use Rattle.types.specs.declared.machine.OperandPlace.{OperandPlace}
use Rattle.anywidth.specs.AnyWidth.{low}
use Rattle.semantics.specs.Addressing.{bits, data_at, accumulator_of, address_of, operand_place_of, in_memory}
use Rattle.prelude.specs.Choice.{pick}
use Rattle.semantics.specs.Memory.{Act, ret, ◌>>=◌}

-- whether the address alone is asked
abbrev pub is_address : OperandUse → Bool
is_address OperandUse.Operand = false
is_address OperandUse.Addend = false
is_address OperandUse.Address = true
is_address OperandUse.Pull = false
is_address OperandUse.DirectWord = false

-- where the data of a mode lies, in memory where its address alone is asked
abbrev pub residence_by : Bool → Mode → OperandPlace
residence_by alone mode = pick alone OperandPlace.Memory (operand_place_of mode)

-- what a mode names in memory: the address alone, or the data there
abbrev pub reached_by : Bool → Mode → Registers → Bool → ℕ → Act Data
reached_by true mode r short operand = do
  address ← address_of mode r operand
  ret (data_at address 0)
reached_by false mode r short operand = in_memory mode r short operand

-- what a mode names, by where it lies
abbrev pub found_at : OperandPlace → Bool → Mode → Named → Registers → Bool → ℕ → Act Data
found_at OperandPlace.Memory alone mode register r short operand = reached_by alone mode r short operand
found_at OperandPlace.Instruction alone mode register r short operand = ret (data_at 0 (low (bits short) operand))
found_at OperandPlace.Register alone mode register r short operand =
    ret (data_at 0 (low (bits short) (accumulator_of register r)))
