-- Where an instruction's data lies and what it is: manual 3.2, and 01, 'Data addresses don't wrap: carries go to the
-- next bank', 'Under x=1 only the low byte of X or Y enters an address', 'S is a 16-bit number that wraps within bank
-- 0'.
-- Assumes nothing.
use Rattle.std.specs.Prelude.{ℕ, ◌+◌, ◌*◌, ◌%◌, Bool, true, false, List, [], ◌∷◌}
use Rattle.types.specs.declared.code.Operation.{Operation}
use Rattle.types.specs.declared.code.Mode.{Mode}
use Rattle.types.specs.declared.code.DataWidth.{DataWidth}
use Rattle.types.specs.declared.code.Accumulator.{Accumulator}
use Rattle.types.specs.declared.machine.Registers.{Registers}
use Rattle.types.specs.declared.machine.OperandUse.{OperandUse}
use Rattle.types.specs.declared.machine.OperandPlace.{OperandPlace}
use Rattle.types.specs.declared.machine.Data.{Data}
use Rattle.prelude.specs.Choice.{pick}
use Rattle.types.specs.Addresses.{bank_size, address_limit}
use Rattle.instructions.specs.Operations.{is_in}
use Rattle.anywidth.specs.AnyWidth.{low}
use Rattle.semantics.specs.Memory.{Act, ret, ◌>>=◌, word_from, long_from, data_from, read_word, read_long, read_data}

-- manual 4.2: instructions that store what a register or the instruction holds, and read nothing at that address
abbrev pub storing : List Operation
storing = Operation.LDM ∷ Operation.STA ∷ Operation.STX ∷ Operation.STY ∷ []

-- manual 4.2: instructions that pull one register
abbrev pub pulling : List Operation
pulling = Operation.PLA ∷ Operation.PLB ∷ Operation.PLD ∷ Operation.PLT ∷ Operation.PLX ∷ Operation.PLY ∷ []

-- number 27, 'ADC or SBC with D=1'
abbrev pub adding : List Operation
adding = Operation.ADC ∷ Operation.SBC ∷ []

-- what an operation asks of memory
abbrev pub operand_use_of : Operation → OperandUse
operand_use_of operation =
    pick (is_in adding operation) OperandUse.Addend
    (pick (is_in storing operation) OperandUse.Address
    (pick (is_in pulling operation) OperandUse.Pull
    (pick (is_in (Operation.PEI ∷ []) operation) OperandUse.DirectWord OperandUse.Operand)))

-- whether data of a width has 8 bits at the widths m and x
abbrev pub is_short : DataWidth → Bool → Bool → Bool
is_short DataWidth.NoData m x = false
is_short DataWidth.ByM m x = m
is_short DataWidth.ByX m x = x
is_short DataWidth.Byte m x = true
is_short DataWidth.Word m x = false

-- data has 8 bits or 16
abbrev pub bits : Bool → ℕ
bits short = pick short 8 16

-- 'Under x=1 only the low byte of X or Y enters an address'
abbrev pub index_x : Registers → ℕ
index_x r = low (bits r.status.x) r.x

abbrev pub index_y : Registers → ℕ
index_y r = low (bits r.status.x) r.y

-- a direct address: the byte behind the code, added to DPR
abbrev pub direct : Registers → ℕ → ℕ
direct r operand = r.dpr + operand % 256

-- an address in the data bank, 'carries go to the next bank'
abbrev pub in_data_bank : Registers → ℕ → ℕ
in_data_bank r address = r.dt * bank_size + address

-- an absolute address: two bytes behind the code, in the data bank
abbrev pub absolute : Registers → ℕ → ℕ
absolute r operand = in_data_bank r (operand % bank_size)

-- S + nn, which is a data address and does not wrap
abbrev pub stack_relative : Registers → ℕ → ℕ
stack_relative r operand = r.s + operand % 256

-- an address of 24 bits behind the code
abbrev pub long : ℕ → ℕ
long operand = operand % address_limit

-- addresses that memory holds: a word, in the data bank, or three bytes; Y may be added
abbrev pub by_word : Registers → ℕ → Act ℕ
by_word r at = do
  pointer ← read_word at
  ret (in_data_bank r pointer)

abbrev pub by_word_y : Registers → ℕ → Act ℕ
by_word_y r at = do
  pointer ← read_word at
  ret (in_data_bank r pointer + index_y r)

abbrev pub by_long_y : Registers → ℕ → Act ℕ
by_long_y r at = do
  pointer ← read_long at
  ret (pointer + index_y r)

-- the address of the data by mode; where a mode names no memory, 0
unfoldable pub address_of : Mode → Registers → ℕ → Act ℕ
address_of Mode.Implied r operand = ret 0
address_of Mode.Immediate r operand = ret 0
address_of Mode.Accumulator r operand = ret 0
address_of Mode.Direct r operand = ret (direct r operand)
address_of Mode.DirectBit r operand = ret (direct r operand)
address_of Mode.DirectIndexedX r operand = ret (direct r operand + index_x r)
address_of Mode.DirectIndexedY r operand = ret (direct r operand + index_y r)
address_of Mode.DirectIndirect r operand = by_word r (direct r operand)
address_of Mode.DirectIndexedXIndirect r operand = by_word r (direct r operand + index_x r)
address_of Mode.DirectIndirectIndexedY r operand = by_word_y r (direct r operand)
address_of Mode.DirectIndirectLong r operand = read_long (direct r operand)
address_of Mode.DirectIndirectLongIndexedY r operand = by_long_y r (direct r operand)
address_of Mode.Absolute r operand = ret (absolute r operand)
address_of Mode.AbsoluteBit r operand = ret (absolute r operand)
address_of Mode.AbsoluteIndexedX r operand = ret (absolute r operand + index_x r)
address_of Mode.AbsoluteIndexedY r operand = ret (absolute r operand + index_y r)
address_of Mode.AbsoluteLong r operand = ret (long operand)
address_of Mode.AbsoluteLongIndexedX r operand = ret (long operand + index_x r)
address_of Mode.AbsoluteIndirect r operand = ret 0
address_of Mode.AbsoluteIndirectLong r operand = ret 0
address_of Mode.AbsoluteIndexedXIndirect r operand = ret 0
address_of Mode.Stack r operand = ret 0
address_of Mode.Relative r operand = ret 0
address_of Mode.DirectBitRelative r operand = ret (direct r operand)
address_of Mode.AbsoluteBitRelative r operand = ret (absolute r operand)
address_of Mode.StackPointerRelative r operand = ret (stack_relative r operand)
address_of Mode.StackPointerRelativeIndirectIndexedY r operand = by_word_y r (stack_relative r operand)
address_of Mode.BlockTransfer r operand = ret 0

-- where the data of a mode lies; JMP and JSR through memory are not carried
abbrev pub operand_place_of : Mode → OperandPlace
operand_place_of Mode.Implied = OperandPlace.Register
operand_place_of Mode.Immediate = OperandPlace.Instruction
operand_place_of Mode.Accumulator = OperandPlace.Register
operand_place_of Mode.Direct = OperandPlace.Memory
operand_place_of Mode.DirectBit = OperandPlace.Memory
operand_place_of Mode.DirectIndexedX = OperandPlace.Memory
operand_place_of Mode.DirectIndexedY = OperandPlace.Memory
operand_place_of Mode.DirectIndirect = OperandPlace.Memory
operand_place_of Mode.DirectIndexedXIndirect = OperandPlace.Memory
operand_place_of Mode.DirectIndirectIndexedY = OperandPlace.Memory
operand_place_of Mode.DirectIndirectLong = OperandPlace.Memory
operand_place_of Mode.DirectIndirectLongIndexedY = OperandPlace.Memory
operand_place_of Mode.Absolute = OperandPlace.Memory
operand_place_of Mode.AbsoluteBit = OperandPlace.Memory
operand_place_of Mode.AbsoluteIndexedX = OperandPlace.Memory
operand_place_of Mode.AbsoluteIndexedY = OperandPlace.Memory
operand_place_of Mode.AbsoluteLong = OperandPlace.Memory
operand_place_of Mode.AbsoluteLongIndexedX = OperandPlace.Memory
operand_place_of Mode.AbsoluteIndirect = OperandPlace.Register
operand_place_of Mode.AbsoluteIndirectLong = OperandPlace.Register
operand_place_of Mode.AbsoluteIndexedXIndirect = OperandPlace.Register
operand_place_of Mode.Stack = OperandPlace.Register
operand_place_of Mode.Relative = OperandPlace.Register
operand_place_of Mode.DirectBitRelative = OperandPlace.Memory
operand_place_of Mode.AbsoluteBitRelative = OperandPlace.Memory
operand_place_of Mode.StackPointerRelative = OperandPlace.Memory
operand_place_of Mode.StackPointerRelativeIndirectIndexedY = OperandPlace.Memory
operand_place_of Mode.BlockTransfer = OperandPlace.Register

-- the accumulator that an entry names, A where it names none
abbrev pub accumulator_of : Accumulator → Registers → ℕ
accumulator_of Accumulator.Unnamed r = r.a
accumulator_of Accumulator.A r = r.a
accumulator_of Accumulator.B r = r.b

abbrev pub data_at : ℕ → ℕ → Data
data_at address v = record { address = address; value = v }

-- 'S is a 16-bit number that wraps within bank 0': where the n-th byte is pulled from
abbrev pub pulled_at : Registers → ℕ → ℕ
pulled_at r n = (r.s + n) % bank_size

-- data off the stack, low byte first
abbrev pub pulled_word : Registers → Act ℕ
pulled_word r = word_from (pulled_at r 1) (pulled_at r 2)

abbrev pub pulled_long : Registers → Act ℕ
pulled_long r = long_from (pulled_at r 1) (pulled_at r 2) (pulled_at r 3)

abbrev pub pulled : Bool → Registers → Act ℕ
pulled short r = data_from short (pulled_at r 1) (pulled_at r 2)

-- the data in memory that a mode names
abbrev pub in_memory : Mode → Registers → Bool → ℕ → Act Data
in_memory mode r short operand = do
  address ← address_of mode r operand
  v ← read_data short address
  ret (data_at address v)

-- the data that a mode names
unfoldable pub operand_by : OperandPlace → Mode → Accumulator → Registers → Bool → ℕ → Act Data
operand_by OperandPlace.Memory mode register r short operand = in_memory mode r short operand
operand_by OperandPlace.Instruction mode register r short operand = ret (data_at 0 (low (bits short) operand))
operand_by OperandPlace.Register mode register r short operand =
    ret (data_at 0 (low (bits short) (accumulator_of register r)))

abbrev pub operand_of : Mode → Accumulator → Registers → Bool → ℕ → Act Data
operand_of mode = operand_by (operand_place_of mode) mode

-- what is read before an operation works
unfoldable pub data_of : OperandUse → Mode → Accumulator → Registers → Bool → ℕ → Act Data
data_of OperandUse.Operand mode register r short operand = operand_of mode register r short operand
data_of OperandUse.Addend mode register r short operand = operand_of mode register r short operand
data_of OperandUse.Address mode register r short operand = do
  address ← address_of mode r operand
  ret (data_at address 0)
data_of OperandUse.Pull mode register r short operand = do
  v ← pulled short r
  ret (data_at 0 v)
data_of OperandUse.DirectWord mode register r short operand = do
  v ← read_word (direct r operand)
  ret (data_at 0 v)
