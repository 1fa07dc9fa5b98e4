-- The words of an instruction in ASCII: the mnemonic of its operation (manual 4.2), three letters, and the first word
-- of its syntax.
-- Assumes nothing.
use Rattle.std.specs.Prelude.{Bool, true, false, ◌||◌, List, [], ◌∷◌, ◌++◌, ℕ, ◌-◌, length, replicate}
use ops.{Unassigned, ADC, AND, ASL, BBC, BBS, BCC, BCS, BEQ, BMI, BNE, BPL, BRA, BRK, BVC, BVS, CLB, CLC, CLI, CLM, CLP}
use ops.{CLV, CMP, CPX, CPY, DEC, DEX, DEY, DIV, EOR, INC, INX, INY, JMP, JSR, LDA, LDM, LDT, LDX, LDY, LSR, MPY, MVN}
use ops.{MVP, NOP, ORA, PEA, PEI, PER, PHA, PHB, PHD, PHG, PHP, PHT, PHX, PHY, PLA, PLB, PLD, PLP, PLT, PLX, PLY, PSH}
use ops.{PUL, RLA, ROL, ROR, RTI, RTL, RTS, SBC, SEB, SEC, SEI, SEM, SEP, STA, STP, STX, STY, TAD, TAS, TAX, TAY, TBD}
use ops.{TBS, TBX, TBY, TDA, TDB, TSA, TSB, TSX, TXA, TXB, TXS, TXY, TYA, TYB, TYX, WIT, XAB}
use Rattle.types.specs.declared.code.Mode.{Mode}
use Rattle.types.specs.declared.code.Target.{Target}
use Rattle.types.specs.declared.code.Entry.{Entry}
use Rattle.types.specs.declared.code.Operation.{Operation}
use Rattle.types.specs.declared.code.Operation.TheVariants as ops
use Rattle.prelude.specs.Choice.{pick}

abbrev '-' : ℕ
'-' = 45

abbrev 'A' : ℕ
'A' = 65

abbrev 'B' : ℕ
'B' = 66

abbrev 'C' : ℕ
'C' = 67

abbrev 'D' : ℕ
'D' = 68

abbrev 'E' : ℕ
'E' = 69

abbrev 'G' : ℕ
'G' = 71

abbrev 'H' : ℕ
'H' = 72

abbrev 'I' : ℕ
'I' = 73

abbrev 'J' : ℕ
'J' = 74

abbrev 'K' : ℕ
'K' = 75

abbrev 'L' : ℕ
'L' = 76

abbrev 'M' : ℕ
'M' = 77

abbrev 'N' : ℕ
'N' = 78

abbrev 'O' : ℕ
'O' = 79

abbrev 'P' : ℕ
'P' = 80

abbrev 'Q' : ℕ
'Q' = 81

abbrev 'R' : ℕ
'R' = 82

abbrev 'S' : ℕ
'S' = 83

abbrev 'T' : ℕ
'T' = 84

abbrev 'U' : ℕ
'U' = 85

abbrev 'V' : ℕ
'V' = 86

abbrev 'W' : ℕ
'W' = 87

abbrev 'X' : ℕ
'X' = 88

abbrev 'Y' : ℕ
'Y' = 89

abbrev pub word : ℕ → ℕ → ℕ → List ℕ
word a b c = a ∷ b ∷ c ∷ []

-- an unassigned code has no word
abbrev pub word_of : Operation → List ℕ
word_of Unassigned = word '-' '-' '-'
word_of ADC = word 'A' 'D' 'C'
word_of AND = word 'A' 'N' 'D'
word_of ASL = word 'A' 'S' 'L'
word_of BBC = word 'B' 'B' 'C'
word_of BBS = word 'B' 'B' 'S'
word_of BCC = word 'B' 'C' 'C'
word_of BCS = word 'B' 'C' 'S'
word_of BEQ = word 'B' 'E' 'Q'
word_of BMI = word 'B' 'M' 'I'
word_of BNE = word 'B' 'N' 'E'
word_of BPL = word 'B' 'P' 'L'
word_of BRA = word 'B' 'R' 'A'
word_of BRK = word 'B' 'R' 'K'
word_of BVC = word 'B' 'V' 'C'
word_of BVS = word 'B' 'V' 'S'
word_of CLB = word 'C' 'L' 'B'
word_of CLC = word 'C' 'L' 'C'
word_of CLI = word 'C' 'L' 'I'
word_of CLM = word 'C' 'L' 'M'
word_of CLP = word 'C' 'L' 'P'
word_of CLV = word 'C' 'L' 'V'
word_of CMP = word 'C' 'M' 'P'
word_of CPX = word 'C' 'P' 'X'
word_of CPY = word 'C' 'P' 'Y'
word_of DEC = word 'D' 'E' 'C'
word_of DEX = word 'D' 'E' 'X'
word_of DEY = word 'D' 'E' 'Y'
word_of DIV = word 'D' 'I' 'V'
word_of EOR = word 'E' 'O' 'R'
word_of INC = word 'I' 'N' 'C'
word_of INX = word 'I' 'N' 'X'
word_of INY = word 'I' 'N' 'Y'
word_of JMP = word 'J' 'M' 'P'
word_of JSR = word 'J' 'S' 'R'
word_of LDA = word 'L' 'D' 'A'
word_of LDM = word 'L' 'D' 'M'
word_of LDT = word 'L' 'D' 'T'
word_of LDX = word 'L' 'D' 'X'
word_of LDY = word 'L' 'D' 'Y'
word_of LSR = word 'L' 'S' 'R'
word_of MPY = word 'M' 'P' 'Y'
word_of MVN = word 'M' 'V' 'N'
word_of MVP = word 'M' 'V' 'P'
word_of NOP = word 'N' 'O' 'P'
word_of ORA = word 'O' 'R' 'A'
word_of PEA = word 'P' 'E' 'A'
word_of PEI = word 'P' 'E' 'I'
word_of PER = word 'P' 'E' 'R'
word_of PHA = word 'P' 'H' 'A'
word_of PHB = word 'P' 'H' 'B'
word_of PHD = word 'P' 'H' 'D'
word_of PHG = word 'P' 'H' 'G'
word_of PHP = word 'P' 'H' 'P'
word_of PHT = word 'P' 'H' 'T'
word_of PHX = word 'P' 'H' 'X'
word_of PHY = word 'P' 'H' 'Y'
word_of PLA = word 'P' 'L' 'A'
word_of PLB = word 'P' 'L' 'B'
word_of PLD = word 'P' 'L' 'D'
word_of PLP = word 'P' 'L' 'P'
word_of PLT = word 'P' 'L' 'T'
word_of PLX = word 'P' 'L' 'X'
word_of PLY = word 'P' 'L' 'Y'
word_of PSH = word 'P' 'S' 'H'
word_of PUL = word 'P' 'U' 'L'
word_of RLA = word 'R' 'L' 'A'
word_of ROL = word 'R' 'O' 'L'
word_of ROR = word 'R' 'O' 'R'
word_of RTI = word 'R' 'T' 'I'
word_of RTL = word 'R' 'T' 'L'
word_of RTS = word 'R' 'T' 'S'
word_of SBC = word 'S' 'B' 'C'
word_of SEB = word 'S' 'E' 'B'
word_of SEC = word 'S' 'E' 'C'
word_of SEI = word 'S' 'E' 'I'
word_of SEM = word 'S' 'E' 'M'
word_of SEP = word 'S' 'E' 'P'
word_of STA = word 'S' 'T' 'A'
word_of STP = word 'S' 'T' 'P'
word_of STX = word 'S' 'T' 'X'
word_of STY = word 'S' 'T' 'Y'
word_of TAD = word 'T' 'A' 'D'
word_of TAS = word 'T' 'A' 'S'
word_of TAX = word 'T' 'A' 'X'
word_of TAY = word 'T' 'A' 'Y'
word_of TBD = word 'T' 'B' 'D'
word_of TBS = word 'T' 'B' 'S'
word_of TBX = word 'T' 'B' 'X'
word_of TBY = word 'T' 'B' 'Y'
word_of TDA = word 'T' 'D' 'A'
word_of TDB = word 'T' 'D' 'B'
word_of TSA = word 'T' 'S' 'A'
word_of TSB = word 'T' 'S' 'B'
word_of TSX = word 'T' 'S' 'X'
word_of TXA = word 'T' 'X' 'A'
word_of TXB = word 'T' 'X' 'B'
word_of TXS = word 'T' 'X' 'S'
word_of TXY = word 'T' 'X' 'Y'
word_of TYA = word 'T' 'Y' 'A'
word_of TYB = word 'T' 'Y' 'B'
word_of TYX = word 'T' 'Y' 'X'
word_of WIT = word 'W' 'I' 'T'
word_of XAB = word 'X' 'A' 'B'

-- the modes through a pointer of three bytes, whose symbols begin with L: L(DIR), L(DIR),Y and L(ABS)
abbrev pub is_long_mode : Mode → Bool
is_long_mode Mode.Implied = false
is_long_mode Mode.Immediate = false
is_long_mode Mode.Accumulator = false
is_long_mode Mode.Direct = false
is_long_mode Mode.DirectBit = false
is_long_mode Mode.DirectIndexedX = false
is_long_mode Mode.DirectIndexedY = false
is_long_mode Mode.DirectIndirect = false
is_long_mode Mode.DirectIndexedXIndirect = false
is_long_mode Mode.DirectIndirectIndexedY = false
is_long_mode Mode.DirectIndirectLong = true
is_long_mode Mode.DirectIndirectLongIndexedY = true
is_long_mode Mode.Absolute = false
is_long_mode Mode.AbsoluteBit = false
is_long_mode Mode.AbsoluteIndexedX = false
is_long_mode Mode.AbsoluteIndexedY = false
is_long_mode Mode.AbsoluteLong = false
is_long_mode Mode.AbsoluteLongIndexedX = false
is_long_mode Mode.AbsoluteIndirect = false
is_long_mode Mode.AbsoluteIndirectLong = true
is_long_mode Mode.AbsoluteIndexedXIndirect = false
is_long_mode Mode.Stack = false
is_long_mode Mode.Relative = false
is_long_mode Mode.DirectBitRelative = false
is_long_mode Mode.AbsoluteBitRelative = false
is_long_mode Mode.StackPointerRelative = false
is_long_mode Mode.StackPointerRelativeIndirectIndexedY = false
is_long_mode Mode.BlockTransfer = false

-- the targets that make a form long: BRA's offset of 16 bits, the 24-bit address of JMP and JSR
abbrev pub is_long_target : Target → Bool
is_long_target Target.NoTarget = false
is_long_target Target.Offset8 = false
is_long_target Target.Offset16 = true
is_long_target Target.Address16 = false
is_long_target Target.Address24 = true

abbrev pub is_long : Entry → Bool
is_long e = is_long_mode e.mode || is_long_target e.target

-- 02, R-1: 'the first word of the manual's syntax for the form'. A long form has an L behind the mnemonic: ADCL A,
-- (dd); JMPL hhmmll; BRAL rr1rr2. Data at an absolute long address makes none: ADC A, hhmmll.
abbrev pub syntax_word : Entry → List ℕ
syntax_word e = word_of e.operation ++ pick (is_long e) ('L' ∷ []) []

-- 'every other column is blank'
abbrev pub blank : ℕ
blank = 0x20

-- a text 'flush left' in so many columns
unfoldable pub flush_left : ℕ → List ℕ → List ℕ
flush_left columns text = text ++ replicate (columns - length text) blank
