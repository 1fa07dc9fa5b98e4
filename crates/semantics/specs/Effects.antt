-- What each operation does with its data: manual 4.2, a line an instruction. The place of execution, the widths and the
-- open calls are not the operation's: they go by its flow and its width effect (Step).
-- Assumes nothing.
use Rattle.std.specs.Prelude.{Bool, true, false, not, List, [], ◌∷◌, ℕ, ◌+◌, ◌-◌, ◌/◌, ◌%◌, ◌<◌, eqb}
use Rattle.std.specs.Int.Bits.{bit_and, bit_or}
use ops.{Unassigned, ADC, AND, ASL, BBC, BBS, BCC, BCS, BEQ, BMI, BNE, BPL, BRA, BRK, BVC, BVS, CLB, CLC, CLI, CLM, CLP}
use ops.{CLV, CMP, CPX, CPY, DEC, DEX, DEY, DIV, EOR, INC, INX, INY, JMP, JSR, LDA, LDM, LDT, LDX, LDY, LSR, MPY, MVN}
use ops.{MVP, NOP, ORA, PEA, PEI, PER, PHA, PHB, PHD, PHG, PHP, PHT, PHX, PHY, PLA, PLB, PLD, PLP, PLT, PLX, PLY, PSH}
use ops.{PUL, RLA, ROL, ROR, RTI, RTL, RTS, SBC, SEB, SEC, SEI, SEM, SEP, STA, STP, STX, STY, TAD, TAS, TAX, TAY, TBD}
use ops.{TBS, TBX, TBY, TDA, TDB, TSA, TSB, TSX, TXA, TXB, TXS, TXY, TYA, TYB, TYX, WIT, XAB}
use Rattle.types.specs.declared.code.Operation.{Operation}
use Rattle.types.specs.declared.code.Operation.TheVariants as ops
use Rattle.types.specs.declared.code.Mode.{Mode}
use Rattle.types.specs.declared.code.Accumulator.{Accumulator}
use Rattle.types.specs.declared.machine.Registers.{Registers}
use Rattle.types.specs.declared.machine.OperandPlace.{OperandPlace}
use Rattle.types.specs.declared.machine.Data.{Data}
use Rattle.types.specs.declared.machine.Store.{Store}
use Rattle.prelude.specs.Choice.{pick}
use Rattle.types.specs.Addresses.{bank_size}
use Rattle.types.specs.Status.{number_of}
use Rattle.anywidth.specs.AnyWidth.{low, is_negative, decremented, cleared_by, shifted_left, shifted_right, is_odd}
use Rattle.semantics.specs.Addressing.{bits, operand_place_of, accumulator_of, pulled_at}
use Rattle.semantics.specs.Arithmetic.{with_carry, with_disable, with_overflow, with_flags_set, with_flags_cleared}
use Rattle.semantics.specs.Arithmetic.{with_x, with_y, with_s, with_dpr, with_dt, with_status, flagged, loads_a}
use Rattle.semantics.specs.Arithmetic.{loads_b}
use Rattle.semantics.specs.Arithmetic.{loads_x, loads_y, transfers_into, loads, adds, subtracts, compares, ands, ors}
use Rattle.semantics.specs.Arithmetic.{exclusive_ors, rotates_a, swaps}

-- The registers after, the bytes to be stored in their order, and whether a branch is taken.
pub record Effect : Type 0 where
  pub registers : Registers
  pub stores : List Store
  pub taken : Bool

abbrev pub effect : Registers → List Store → Bool → Effect
effect r stores taken = record { registers = r; stores = stores; taken = taken }

abbrev pub store : ℕ → ℕ → Store
store address v = record { address = address; byte = v % 256 }

-- 'a word low byte first'
abbrev pub stores_of : Bool → ℕ → ℕ → List Store
stores_of true address v = store address v ∷ []
stores_of false address v = store address v ∷ store (address + 1) (v / 256) ∷ []

-- 'S is a 16-bit number that wraps within bank 0': where the n-th byte is pushed, counted from 0, and S after n bytes
abbrev pub pushed_at : Registers → ℕ → ℕ
pushed_at r n = (r.s + (bank_size - n)) % bank_size

-- 'a push as pushed': the high byte first
abbrev pub push_of : Bool → ℕ → Registers → List Store
push_of true v r = store r.s v ∷ []
push_of false v r = store r.s (v / 256) ∷ store (pushed_at r 1) v ∷ []

-- how many bytes data of a width has
abbrev pub bytes : Bool → ℕ
bytes short = pick short 1 2

-- registers alone
abbrev pub only : Registers → Effect
only r = effect r [] false

-- a branch, taken or not
abbrev pub branches_if : Bool → Registers → Effect
branches_if taken r = effect r [] taken

-- data of a width goes to memory
abbrev pub stores_to : Bool → ℕ → ℕ → Registers → Effect
stores_to short address v r = effect r (stores_of short address v) false

-- data of a width goes on the stack
abbrev pub pushes : Bool → ℕ → Registers → Effect
pushes short v r = effect (with_s (pushed_at r (bytes short)) r) (push_of short v r) false

-- data of a width is taken off the stack
abbrev pub popped : Bool → Registers → Registers
popped short r = with_s (pulled_at r (bytes short)) r

-- a result goes where the data came from, with C, N and Z
abbrev pub modifies_by : OperandPlace → Accumulator → Bool → ℕ → Bool → ℕ → Registers → Effect
modifies_by OperandPlace.Memory named short address carry v r =
    effect (flagged (bits short) v (with_status (with_carry carry r.status) r))
    (stores_of short address (low (bits short) v)) false
modifies_by OperandPlace.Instruction named short address carry v r =
    only (loads named (bits short) v (with_status (with_carry carry r.status) r))
modifies_by OperandPlace.Register named short address carry v r =
    only (loads named (bits short) v (with_status (with_carry carry r.status) r))

-- SEB, CLB, BBS, BBC and LDM have immediate data behind an address of one byte or of two: how many numbers that address
-- can be
abbrev pub address_size : Mode → ℕ
address_size Mode.Implied = 1
address_size Mode.Immediate = 1
address_size Mode.Accumulator = 1
address_size Mode.Direct = 256
address_size Mode.DirectBit = 256
address_size Mode.DirectIndexedX = 256
address_size Mode.DirectIndexedY = 256
address_size Mode.DirectIndirect = 256
address_size Mode.DirectIndexedXIndirect = 256
address_size Mode.DirectIndirectIndexedY = 256
address_size Mode.DirectIndirectLong = 256
address_size Mode.DirectIndirectLongIndexedY = 256
address_size Mode.Absolute = bank_size
address_size Mode.AbsoluteBit = bank_size
address_size Mode.AbsoluteIndexedX = bank_size
address_size Mode.AbsoluteIndexedY = bank_size
address_size Mode.AbsoluteLong = bank_size
address_size Mode.AbsoluteLongIndexedX = bank_size
address_size Mode.AbsoluteIndirect = bank_size
address_size Mode.AbsoluteIndirectLong = bank_size
address_size Mode.AbsoluteIndexedXIndirect = bank_size
address_size Mode.Stack = 1
address_size Mode.Relative = 1
address_size Mode.DirectBitRelative = 256
address_size Mode.AbsoluteBitRelative = bank_size
address_size Mode.StackPointerRelative = 1
address_size Mode.StackPointerRelativeIndirectIndexedY = 1
address_size Mode.BlockTransfer = 1

abbrev pub behind_address : Mode → Bool → ℕ → ℕ
behind_address mode short operand = low (bits short) (operand / address_size mode)

-- An operation at its data: `named` is the accumulator that the entry names, `short` the width of its data, which has
-- `n` bits, `operand` the number behind its code, `next` the address after the instruction, `v` the data and `address`
-- its place.
module _ (mode : Mode) (named : Accumulator) (short : Bool) (operand next : ℕ) (d : Data) (r : Registers) where
  abbrev pub v : ℕ
  v = d.value

  abbrev pub address : ℕ
  address = d.address

  abbrev pub n : ℕ
  n = bits short

  abbrev pub acc : ℕ
  acc = accumulator_of named r

  abbrev pub behind : ℕ
  behind = behind_address mode short operand

  abbrev pub modifies : Bool → ℕ → Effect
  modifies carry result = modifies_by (operand_place_of mode) named short address carry result r

  -- operations of other flows, SEM, CLM and NOP leave the registers as they are, and so does what is not carried
  unfoldable pub effect_of : Operation → Effect
  effect_of Unassigned = only r
  effect_of ADC = only (adds named n v r)
  effect_of AND = only (ands named n v r)
  effect_of ASL = modifies (is_negative n v) (shifted_left v false)
  effect_of BBC = branches_if (eqb (bit_and v behind) 0) r
  effect_of BBS = branches_if (eqb (cleared_by n v behind) 0) r
  effect_of BCC = branches_if (not r.status.carry) r
  effect_of BCS = branches_if r.status.carry r
  effect_of BEQ = branches_if r.status.zero r
  effect_of BMI = branches_if r.status.negative r
  effect_of BNE = branches_if (not r.status.zero) r
  effect_of BPL = branches_if (not r.status.negative) r
  effect_of BRA = only r
  effect_of BRK = only r
  effect_of BVC = branches_if (not r.status.overflow) r
  effect_of BVS = branches_if r.status.overflow r
  effect_of CLB = stores_to short address (cleared_by n behind v) r
  effect_of CLC = only (with_status (with_carry false r.status) r)
  effect_of CLI = only (with_status (with_disable false r.status) r)
  effect_of CLM = only r
  effect_of CLP = only (with_status (with_flags_cleared v r.status) r)
  effect_of CLV = only (with_status (with_overflow false r.status) r)
  effect_of CMP = only (compares n acc v r)
  effect_of CPX = only (compares n r.x v r)
  effect_of CPY = only (compares n r.y v r)
  effect_of DEC = modifies r.status.carry (decremented n v)
  effect_of DEX = only (loads_x n (decremented n r.x) r)
  effect_of DEY = only (loads_y n (decremented n r.y) r)
  effect_of DIV = only r
  effect_of EOR = only (exclusive_ors named n v r)
  effect_of INC = modifies r.status.carry (v + 1)
  effect_of INX = only (loads_x n (r.x + 1) r)
  effect_of INY = only (loads_y n (r.y + 1) r)
  effect_of JMP = only r
  effect_of JSR = only r
  effect_of LDA = only (loads named n v r)
  effect_of LDM = stores_to short address behind r
  effect_of LDT = only (with_dt (v % 256) r)
  effect_of LDX = only (loads_x n v r)
  effect_of LDY = only (loads_y n v r)
  effect_of LSR = modifies (is_odd v) (shifted_right n v false)
  effect_of MPY = only r
  effect_of MVN = only r
  effect_of MVP = only r
  effect_of NOP = only r
  effect_of ORA = only (ors named n v r)
  effect_of PEA = pushes short operand r
  effect_of PEI = pushes short v r
  effect_of PER = pushes short (next + operand) r
  effect_of PHA = pushes short r.a r
  effect_of PHB = pushes short r.b r
  effect_of PHD = pushes short r.dpr r
  effect_of PHG = pushes short (next / bank_size) r
  effect_of PHP = pushes short (number_of r.status) r
  effect_of PHT = pushes short r.dt r
  effect_of PHX = pushes short r.x r
  effect_of PHY = pushes short r.y r
  effect_of PLA = only (loads_a n v (popped short r))
  effect_of PLB = only (loads_b n v (popped short r))
  effect_of PLD = only (with_dpr v (popped short r))
  effect_of PLP = only r
  effect_of PLT = only (flagged n v (with_dt (v % 256) (popped short r)))
  effect_of PLX = only (loads_x n v (popped short r))
  effect_of PLY = only (loads_y n v (popped short r))
  effect_of PSH = only r
  effect_of PUL = only r
  effect_of RLA = only (rotates_a n v r)
  effect_of ROL = modifies (is_negative n v) (shifted_left v r.status.carry)
  effect_of ROR = modifies (is_odd v) (shifted_right n v r.status.carry)
  effect_of RTI = only r
  effect_of RTL = only r
  effect_of RTS = only r
  effect_of SBC = only (subtracts named n v r)
  effect_of SEB = stores_to short address (bit_or v behind) r
  effect_of SEC = only (with_status (with_carry true r.status) r)
  effect_of SEI = only (with_status (with_disable true r.status) r)
  effect_of SEM = only r
  effect_of SEP = only (with_status (with_flags_set v r.status) r)
  effect_of STA = stores_to short address acc r
  effect_of STP = only r
  effect_of STX = stores_to short address r.x r
  effect_of STY = stores_to short address r.y r
  effect_of TAD = only (with_dpr r.a r)
  effect_of TAS = only (with_s r.a r)
  effect_of TAX = only (transfers_into with_x n r.a r)
  effect_of TAY = only (transfers_into with_y n r.a r)
  effect_of TBD = only (with_dpr r.b r)
  effect_of TBS = only (with_s r.b r)
  effect_of TBX = only (transfers_into with_x n r.b r)
  effect_of TBY = only (transfers_into with_y n r.b r)
  effect_of TDA = only (loads_a n r.dpr r)
  effect_of TDB = only (loads_b n r.dpr r)
  effect_of TSA = only (loads_a n r.s r)
  effect_of TSB = only (loads_b n r.s r)
  effect_of TSX = only (transfers_into with_x n r.s r)
  effect_of TXA = only (loads_a n r.x r)
  effect_of TXB = only (loads_b n r.x r)
  effect_of TXS = only (with_s r.x r)
  effect_of TXY = only (transfers_into with_y n r.x r)
  effect_of TYA = only (loads_a n r.y r)
  effect_of TYB = only (loads_b n r.y r)
  effect_of TYX = only (transfers_into with_x n r.y r)
  effect_of WIT = only r
  effect_of XAB = only (swaps n r)

-- every register within its width
pub record InWidth (r : Registers) : Type 0 where
  pub a : r.a < 65_536
  pub b : r.b < 65_536
  pub x : r.x < 65_536
  pub y : r.y < 65_536
  pub s : r.s < 65_536
  pub dpr : r.dpr < 65_536
  pub dt : r.dt < 256
  pub level : r.status.level < 256
