-- An operation keeps every register within its width and stores bytes: what it puts into a register is cut to a width,
-- is another register, or is data, and data that is read from bytes has two at most.
-- Assumes nothing.
use Rattle.std.specs.Prelude.{Some, None, Option}
use mathlib.Core.Bool.{Bool, true, false}
use mathlib.Core.List.{List}
use Prim.Native.Nat.{ℕ, ◌+◌, ◌-◌, ◌<◌}
use native.Mathlib.Omega.{arith}
use lib.ListN.{get_or}
use Rattle.types.specs.declared.code.Mode.{Mode}
use Rattle.types.specs.declared.code.Accumulator.{Accumulator}
use Rattle.types.specs.declared.code.Operation.{Operation}
use Rattle.types.specs.declared.code.Operation.TheVariants as ops
use ops.{Unassigned, ADC, AND, ASL, BBC, BBS, BCC, BCS, BEQ, BMI, BNE, BPL, BRA, BRK, BVC, BVS, CLB, CLC, CLI, CLM}
use ops.{CLP, CLV, CMP, CPX, CPY, DEC, DEX, DEY, DIV, EOR, INC, INX, INY, JMP, JSR, LDA, LDM, LDT, LDX, LDY, LSR}
use ops.{MPY, MVN, MVP, NOP, ORA, PEA, PEI, PER, PHA, PHB, PHD, PHG, PHP, PHT, PHX, PHY, PLA, PLB, PLD, PLP, PLT}
use ops.{PLX, PLY, PSH, PUL, RLA, ROL, ROR, RTI, RTL, RTS, SBC, SEB, SEC, SEI, SEM, SEP, STA, STP, STX, STY, TAD}
use ops.{TAS, TAX, TAY, TBD, TBS, TBX, TBY, TDA, TDB, TSA, TSB, TSX, TXA, TXB, TXS, TXY, TYA, TYB, TYX, WIT, XAB}
use Rattle.types.specs.declared.machine.Registers.{Registers}
use Rattle.types.specs.declared.machine.Status.{Status}
use Rattle.types.specs.declared.machine.Data.{Data}
use Rattle.types.specs.declared.machine.OperandUse.{OperandUse}
use Rattle.types.specs.declared.machine.OperandPlace.{OperandPlace}
use Rattle.types.specs.declared.machine.Store.{Store}
use Rattle.prelude.specs.Choice.{pick}
use Rattle.prelude.specs.Bytes.{AllBytes}
use Rattle.semantics.specs.Memory.{Memory, in_ram, is_in_image, byte_at, Act, ret, load, ◌>>=◌, Outcome, done, unmapped}
use Rattle.semantics.specs.Memory.{on_byte, evaluate, data_from}
use Rattle.anywidth.specs.AnyWidth.{low, merged}
use Rattle.semantics.specs.Addressing.{bits, direct, address_of, operand_place_of, accumulator_of, data_at, pulled_at}
use Rattle.semantics.specs.Addressing.{operand_by, data_of}
use Rattle.semantics.specs.Arithmetic.{with_a, with_b, with_x, with_y, with_s, with_dpr, with_dt, with_status, loads}
use Rattle.semantics.specs.Arithmetic.{loads_a, loads_b, loads_x, loads_y, transfers_into}
use Rattle.semantics.specs.Effects.{Effect, stores_of, push_of, pushes, popped, modifies_by, effect_of}
use Rattle.semantics.specs.Effects.{InWidth}
use Rattle.prelude.specs.Lists.{Every}

-- ---- what is read from bytes

-- whatever bytes it reads, an action comes to such a value
abbrev pub Yields : {A : Type 0} → (A → Type 0) → Act A → Type 0
Yields P (ret v) = P v
Yields P (load at more) = (byte : ℕ) → byte < 256 → Yields P (more byte)

yields_after : {A B : Type 0} (P : B → Type 0) (a : Act A) (f : A → Act B) → ((v : A) → Yields P (f v))
    → Yields P (a >>= f)
yields_after P (ret v) f each = each v
yields_after P (load at more) f each = λ byte small. yields_after P (more byte) f each

abbrev pub Comes : {A : Type 0} → (A → Type 0) → Outcome A → Type 0
Comes P (done v) = P v
Comes P unmapped = Unit {0}

abbrev ByteOnly : Option ℕ → Type 0
ByteOnly (Some b) = b < 256
ByteOnly None = Unit {0}

module _ (m : Memory) (ram_bytes : AllBytes m.ram) (in_image : AllBytes m.image) where
  byte_read : (at : ℕ) → ByteOnly (byte_at m at)
  unfolding byte_at
  byte_read at = by (in_ram m at) (is_in_image m at)
    where
      by : (b c : Bool)
          → ByteOnly (pick b (Some (get_or m.ram at 0))
          (pick c (Some (get_or m.image (at - m.base) 0)) None))
      by true c = ram_bytes at
      by false true = in_image (at - m.base)
      by false false = tt

  pub comes : {A : Type 0} (P : A → Type 0) (a : Act A) → Yields P a → Comes P (evaluate m a)
  comes P (ret v) y = y
  comes P (load at more) y = by (byte_at m at) (byte_read at) (λ b small. comes P (more b) (y b small))
    where
      by : (b : Option ℕ) → ByteOnly b → ((byte : ℕ) → byte < 256 → Comes P (evaluate m (more byte)))
          → Comes P (on_byte b (λ byte. evaluate m (more byte)))
      by (Some b) small on = on b small
      by None small on = tt

abbrev pub SmallData : Data → Type 0
SmallData d = d.value < 65_536

low_small : (short : Bool) (v : ℕ) → low (bits short) v < 65_536
low_small true v = omega arith
low_small false v = omega arith

data_from_lem : (short : Bool) (at then place : ℕ)
    → Yields SmallData (data_from short at then >>= (λ v. ret (data_at place v)))
data_from_lem true at then place = λ byte small. omega arith
data_from_lem false at then place = λ byte small high small'. omega arith

module _ (mode : Mode) (named : Accumulator) (r : Registers) (short : Bool) (operand : ℕ) where
  operand_small : (p : OperandPlace) → Yields SmallData (operand_by p mode named r short operand)
  unfolding operand_by
  operand_small OperandPlace.Memory =
      yields_after SmallData (address_of mode r operand) _
      (λ address. data_from_lem short address (address + 1) address)
  operand_small OperandPlace.Instruction = low_small short operand
  operand_small OperandPlace.Register = low_small short (accumulator_of named r)

  pub data_small : (a : OperandUse) → Yields SmallData (data_of a mode named r short operand)
  unfolding data_of
  data_small OperandUse.Operand = operand_small (operand_place_of mode)
  data_small OperandUse.Addend = operand_small (operand_place_of mode)
  data_small OperandUse.Address =
      yields_after SmallData (address_of mode r operand) (λ address. ret (data_at address 0)) (λ address. omega arith)
  data_small OperandUse.Pull = data_from_lem short (pulled_at r 1) (pulled_at r 2) 0
  data_small OperandUse.DirectWord = data_from_lem false (direct r operand) (direct r operand + 1) 0

-- ---- what an operation leaves

merged_small : (short : Bool) (old v : ℕ) → old < 65_536 → merged (bits short) old v < 65_536
merged_small true old v h = omega arith
merged_small false old v h = omega arith

abbrev pub SmallStores : List Store → Type 0
SmallStores = Every (λ s. s.byte < 256)

abbrev pub Fine : Effect → Type 0
Fine e = InWidth e.registers × SmallStores e.stores

module _ (r : Registers) (h : InWidth r) where
  pub in_status : (s : Status) → s.level < 256 → InWidth (with_status s r)
  in_status s v = omega arith

  pub in_s : (n : ℕ) → n < 65_536 → InWidth (with_s n r)
  in_s n v = omega arith

  in_dpr : (n : ℕ) → n < 65_536 → InWidth (with_dpr n r)
  in_dpr n v = omega arith

  in_dt : (n : ℕ) → n < 256 → InWidth (with_dt n r)
  in_dt n v = omega arith

  module _ (short : Bool) (n : ℕ) where
    in_a : InWidth (with_a (merged (bits short) r.a n) r)
    in_a = omega (arith, merged_small short r.a n h.a)

    in_b : InWidth (with_b (merged (bits short) r.b n) r)
    in_b = omega (arith, merged_small short r.b n h.b)

    loads_a_lem : InWidth (loads_a (bits short) n r)
    loads_a_lem = omega (arith, merged_small short r.a n h.a)

    loads_b_lem : InWidth (loads_b (bits short) n r)
    loads_b_lem = omega (arith, merged_small short r.b n h.b)

    loads_x_lem : InWidth (loads_x (bits short) n r)
    loads_x_lem = omega (arith, merged_small short r.x n h.x)

    loads_y_lem : InWidth (loads_y (bits short) n r)
    loads_y_lem = omega (arith, merged_small short r.y n h.y)

    into_x : InWidth (transfers_into with_x (bits short) n r)
    into_x = omega (arith, low_small short n)

    into_y_lem : InWidth (transfers_into with_y (bits short) n r)
    into_y_lem = omega (arith, low_small short n)

    loads_in : (named : Accumulator) → InWidth (loads named (bits short) n r)
    loads_in Accumulator.Unnamed = loads_a_lem
    loads_in Accumulator.A = loads_a_lem
    loads_in Accumulator.B = loads_b_lem

stores_small : (short : Bool) (address v : ℕ) → SmallStores (stores_of short address v)
stores_small true address v = omega arith
stores_small false address v = omega arith

push_small : (short : Bool) (v : ℕ) (r : Registers) → SmallStores (push_of short v r)
push_small true v r = omega arith
push_small false v r = omega arith

module _ (mode : Mode) (named : Accumulator) (short : Bool) (operand next : ℕ) (d : Data) (r : Registers)
    (h : InWidth r) (small : SmallData d) where
  flags : (s : Status) → s.level < 256 → InWidth (with_status s r)
  flags = in_status r h

  off : InWidth (popped short r)
  off = in_s r h _ (omega arith)

  pushed : (v : ℕ) → Fine (pushes short v r)
  pushed v = (in_s r h _ (omega arith), push_small short v r)

  stored_to : (v : ℕ) → InWidth r × SmallStores (stores_of short d.address v)
  stored_to v = (h, stores_small short d.address v)

  modified : (carry : Bool) (v : ℕ) → Fine (modifies_by (operand_place_of mode) named short d.address carry v r)
  modified carry v = by (operand_place_of mode)
    where
      by : (p : OperandPlace) → Fine (modifies_by p named short d.address carry v r)
      by OperandPlace.Memory = (flags _ h.level, stores_small short d.address (low (bits short) v))
      by OperandPlace.Instruction = (loads_in _ (flags _ h.level) short v named, tt)
      by OperandPlace.Register = (loads_in _ (flags _ h.level) short v named, tt)

  pub effect_fine : (operation : Operation) → Fine (effect_of mode named short operand next d r operation)
  unfolding effect_of
  effect_fine Unassigned = (h, tt)
  effect_fine ADC = (loads_in _ (flags _ h.level) short _ named, tt)
  effect_fine AND = (loads_in r h short _ named, tt)
  effect_fine ASL = modified _ _
  effect_fine BBC = (h, tt)
  effect_fine BBS = (h, tt)
  effect_fine BCC = (h, tt)
  effect_fine BCS = (h, tt)
  effect_fine BEQ = (h, tt)
  effect_fine BMI = (h, tt)
  effect_fine BNE = (h, tt)
  effect_fine BPL = (h, tt)
  effect_fine BRA = (h, tt)
  effect_fine BRK = (h, tt)
  effect_fine BVC = (h, tt)
  effect_fine BVS = (h, tt)
  effect_fine CLB = stored_to _
  effect_fine CLC = (flags _ h.level, tt)
  effect_fine CLI = (flags _ h.level, tt)
  effect_fine CLM = (h, tt)
  effect_fine CLP = (flags _ h.level, tt)
  effect_fine CLV = (flags _ h.level, tt)
  effect_fine CMP = (flags _ h.level, tt)
  effect_fine CPX = (flags _ h.level, tt)
  effect_fine CPY = (flags _ h.level, tt)
  effect_fine DEC = modified _ _
  effect_fine DEX = (loads_x_lem r h short _, tt)
  effect_fine DEY = (loads_y_lem r h short _, tt)
  effect_fine DIV = (h, tt)
  effect_fine EOR = (loads_in r h short _ named, tt)
  effect_fine INC = modified _ _
  effect_fine INX = (loads_x_lem r h short _, tt)
  effect_fine INY = (loads_y_lem r h short _, tt)
  effect_fine JMP = (h, tt)
  effect_fine JSR = (h, tt)
  effect_fine LDA = (loads_in r h short _ named, tt)
  effect_fine LDM = stored_to _
  effect_fine LDT = (in_dt r h _ (omega arith), tt)
  effect_fine LDX = (loads_x_lem r h short _, tt)
  effect_fine LDY = (loads_y_lem r h short _, tt)
  effect_fine LSR = modified _ _
  effect_fine MPY = (h, tt)
  effect_fine MVN = (h, tt)
  effect_fine MVP = (h, tt)
  effect_fine NOP = (h, tt)
  effect_fine ORA = (loads_in r h short _ named, tt)
  effect_fine PEA = pushed _
  effect_fine PEI = pushed _
  effect_fine PER = pushed _
  effect_fine PHA = pushed _
  effect_fine PHB = pushed _
  effect_fine PHD = pushed _
  effect_fine PHG = pushed _
  effect_fine PHP = pushed _
  effect_fine PHT = pushed _
  effect_fine PHX = pushed _
  effect_fine PHY = pushed _
  effect_fine PLA = (loads_a_lem _ off short _, tt)
  effect_fine PLB = (loads_b_lem _ off short _, tt)
  effect_fine PLD = (in_dpr _ off _ small, tt)
  effect_fine PLP = (h, tt)
  effect_fine PLT = (in_status _ (in_dt _ off _ (omega arith)) _ h.level, tt)
  effect_fine PLX = (loads_x_lem _ off short _, tt)
  effect_fine PLY = (loads_y_lem _ off short _, tt)
  effect_fine PSH = (h, tt)
  effect_fine PUL = (h, tt)
  effect_fine RLA = (in_a r h short _, tt)
  effect_fine ROL = modified _ _
  effect_fine ROR = modified _ _
  effect_fine RTI = (h, tt)
  effect_fine RTL = (h, tt)
  effect_fine RTS = (h, tt)
  effect_fine SBC = (loads_in _ (flags _ h.level) short _ named, tt)
  effect_fine SEB = stored_to _
  effect_fine SEC = (flags _ h.level, tt)
  effect_fine SEI = (flags _ h.level, tt)
  effect_fine SEM = (h, tt)
  effect_fine SEP = (flags _ h.level, tt)
  effect_fine STA = stored_to _
  effect_fine STP = (h, tt)
  effect_fine STX = stored_to _
  effect_fine STY = stored_to _
  effect_fine TAD = (in_dpr r h _ h.a, tt)
  effect_fine TAS = (in_s r h _ h.a, tt)
  effect_fine TAX = (into_x r h short _, tt)
  effect_fine TAY = (into_y_lem r h short _, tt)
  effect_fine TBD = (in_dpr r h _ h.b, tt)
  effect_fine TBS = (in_s r h _ h.b, tt)
  effect_fine TBX = (into_x r h short _, tt)
  effect_fine TBY = (into_y_lem r h short _, tt)
  effect_fine TDA = (loads_a_lem r h short _, tt)
  effect_fine TDB = (loads_b_lem r h short _, tt)
  effect_fine TSA = (loads_a_lem r h short _, tt)
  effect_fine TSB = (loads_b_lem r h short _, tt)
  effect_fine TSX = (into_x r h short _, tt)
  effect_fine TXA = (loads_a_lem r h short _, tt)
  effect_fine TXB = (loads_b_lem r h short _, tt)
  effect_fine TXS = (in_s r h _ h.x, tt)
  effect_fine TXY = (into_y_lem r h short _, tt)
  effect_fine TYA = (loads_a_lem r h short _, tt)
  effect_fine TYB = (loads_b_lem r h short _, tt)
  effect_fine TYX = (into_x r h short _, tt)
  effect_fine WIT = (h, tt)
  effect_fine XAB = (loads_a_lem _ (in_b r h short r.a) short _, tt)
