-- The manual's code map: 01's 'three code pages of 256 entries: plain, behind 42, behind 89', 16 rows of 16.
-- A row is a row of Appendix C, its sixteen columns four to a line. A cell is written as there: the operation
-- and the addressing mode by Appendix B's symbol, with ⟨ ⟩ for its round brackets and - for its comma, and
-- a or b in front where the syntax names accumulator A or B.
-- Assumes nothing.
use Rattle.std.specs.Prelude.{List, [], ◌∷◌, Bool, true, false}
use Rattle.types.specs.declared.code.Operation.{Operation}
use Rattle.types.specs.declared.code.Operation.TheVariants as ops
use ops.{Unassigned, ADC, AND, ASL, BBC, BBS, BCC, BCS, BEQ, BMI, BNE, BPL, BRA, BRK, BVC, BVS, CLB, CLC, CLI, CLM}
use ops.{CLP, CLV, CMP, CPX, CPY, DEC, DEX, DEY, DIV, EOR, INC, INX, INY, JMP, JSR, LDA, LDM, LDT, LDX, LDY, LSR}
use ops.{MPY, MVN, MVP, NOP, ORA, PEA, PEI, PER, PHA, PHB, PHD, PHG, PHP, PHT, PHX, PHY, PLA, PLB, PLD, PLP, PLT}
use ops.{PLX, PLY, PSH, PUL, RLA, ROL, ROR, RTI, RTL, RTS, SBC, SEB, SEC, SEI, SEM, SEP, STA, STP, STX, STY, TAD}
use ops.{TAS, TAX, TAY, TBD, TBS, TBX, TBY, TDA, TDB, TSA, TSB, TSX, TXA, TXB, TXS, TXY, TYA, TYB, TYX, WIT, XAB}
use Rattle.types.specs.declared.code.Mode.{Mode}
use Rattle.types.specs.declared.code.Mode.TheVariants as modes
use modes.{Implied as IMP, Immediate as IMM, Accumulator as ACC, Direct as DIR, DirectBit as DIRb}
use modes.{DirectIndexedX as DIR-X, DirectIndexedY as DIR-Y, DirectIndirect as ⟨DIR⟩}
use modes.{DirectIndexedXIndirect as ⟨DIR-X⟩, DirectIndirectIndexedY as ⟨DIR⟩-Y, DirectIndirectLong as L⟨DIR⟩}
use modes.{DirectIndirectLongIndexedY as L⟨DIR⟩-Y, Absolute as ABS, AbsoluteBit as ABSb, AbsoluteIndexedX as ABS-X}
use modes.{AbsoluteIndexedY as ABS-Y, AbsoluteLong as ABL, AbsoluteLongIndexedX as ABL-X}
use modes.{AbsoluteIndirect as ⟨ABS⟩, AbsoluteIndirectLong as L⟨ABS⟩, AbsoluteIndexedXIndirect as ⟨ABS-X⟩}
use modes.{Stack as STK, Relative as REL, DirectBitRelative as DIRb-REL, AbsoluteBitRelative as ABSb-REL}
use modes.{StackPointerRelative as SR, StackPointerRelativeIndirectIndexedY as ⟨SR⟩-Y, BlockTransfer as BLK}
use Rattle.types.specs.declared.code.Accumulator.{Accumulator}

-- What stands in a cell. BRA has two codes of one mode: the one with 16 bits of offset is far.
pub record Form : Type 0 where
  pub operation : Operation
  pub mode : Mode
  pub accumulator : Accumulator
  pub is_far : Bool

abbrev pub o : Operation → Mode → Form
o operation mode = record { operation = operation; mode = mode; accumulator = Accumulator.Unnamed; is_far = false }

abbrev pub far : Operation → Mode → Form
far operation mode = record { operation = operation; mode = mode; accumulator = Accumulator.Unnamed; is_far = true }

abbrev pub a : Operation → Mode → Form
a operation mode = record { operation = operation; mode = mode; accumulator = Accumulator.A; is_far = false }

abbrev pub b : Operation → Mode → Form
b operation mode = record { operation = operation; mode = mode; accumulator = Accumulator.B; is_far = false }

-- an unassigned code; on the plain page the prefixes 42 and 89 too, which are no codes by themselves
abbrev pub none : Form
none = o Unassigned IMP

-- a row without codes
abbrev pub empty_row : List Form
empty_row =
    none ∷ none ∷ none ∷ none ∷ none ∷ none ∷ none ∷ none ∷
    none ∷ none ∷ none ∷ none ∷ none ∷ none ∷ none ∷ none ∷ []

-- Appendix C, INSTRUCTION CODE TABLE-1
unfoldable pub plain : List (List Form)
plain =
    -- 0
    (o BRK IMP ∷ a ORA ⟨DIR-X⟩ ∷ none ∷ a ORA SR ∷
    o SEB DIRb ∷ a ORA DIR ∷ o ASL DIR ∷ a ORA L⟨DIR⟩ ∷
    o PHP STK ∷ a ORA IMM ∷ a ASL ACC ∷ o PHD STK ∷
    o SEB ABSb ∷ a ORA ABS ∷ o ASL ABS ∷ a ORA ABL ∷ []) ∷
    -- 1
    (o BPL REL ∷ a ORA ⟨DIR⟩-Y ∷ a ORA ⟨DIR⟩ ∷ a ORA ⟨SR⟩-Y ∷
    o CLB DIRb ∷ a ORA DIR-X ∷ o ASL DIR-X ∷ a ORA L⟨DIR⟩-Y ∷
    o CLC IMP ∷ a ORA ABS-Y ∷ a DEC ACC ∷ o TAS IMP ∷
    o CLB ABSb ∷ a ORA ABS-X ∷ o ASL ABS-X ∷ a ORA ABL-X ∷ []) ∷
    -- 2
    (o JSR ABS ∷ a AND ⟨DIR-X⟩ ∷ o JSR ABL ∷ a AND SR ∷
    o BBS DIRb-REL ∷ a AND DIR ∷ o ROL DIR ∷ a AND L⟨DIR⟩ ∷
    o PLP STK ∷ a AND IMM ∷ a ROL ACC ∷ o PLD STK ∷
    o BBS ABSb-REL ∷ a AND ABS ∷ o ROL ABS ∷ a AND ABL ∷ []) ∷
    -- 3
    (o BMI REL ∷ a AND ⟨DIR⟩-Y ∷ a AND ⟨DIR⟩ ∷ a AND ⟨SR⟩-Y ∷
    o BBC DIRb-REL ∷ a AND DIR-X ∷ o ROL DIR-X ∷ a AND L⟨DIR⟩-Y ∷
    o SEC IMP ∷ a AND ABS-Y ∷ a INC ACC ∷ o TSA IMP ∷
    o BBC ABSb-REL ∷ a AND ABS-X ∷ o ROL ABS-X ∷ a AND ABL-X ∷ []) ∷
    -- 4
    (o RTI IMP ∷ a EOR ⟨DIR-X⟩ ∷ none ∷ a EOR SR ∷
    o MVP BLK ∷ a EOR DIR ∷ o LSR DIR ∷ a EOR L⟨DIR⟩ ∷
    o PHA STK ∷ a EOR IMM ∷ a LSR ACC ∷ o PHG STK ∷
    o JMP ABS ∷ a EOR ABS ∷ o LSR ABS ∷ a EOR ABL ∷ []) ∷
    -- 5
    (o BVC REL ∷ a EOR ⟨DIR⟩-Y ∷ a EOR ⟨DIR⟩ ∷ a EOR ⟨SR⟩-Y ∷
    o MVN BLK ∷ a EOR DIR-X ∷ o LSR DIR-X ∷ a EOR L⟨DIR⟩-Y ∷
    o CLI IMP ∷ a EOR ABS-Y ∷ o PHY STK ∷ o TAD IMP ∷
    o JMP ABL ∷ a EOR ABS-X ∷ o LSR ABS-X ∷ a EOR ABL-X ∷ []) ∷
    -- 6
    (o RTS IMP ∷ a ADC ⟨DIR-X⟩ ∷ o PER STK ∷ a ADC SR ∷
    o LDM DIR ∷ a ADC DIR ∷ o ROR DIR ∷ a ADC L⟨DIR⟩ ∷
    o PLA STK ∷ a ADC IMM ∷ a ROR ACC ∷ o RTL IMP ∷
    o JMP ⟨ABS⟩ ∷ a ADC ABS ∷ o ROR ABS ∷ a ADC ABL ∷ []) ∷
    -- 7
    (o BVS REL ∷ a ADC ⟨DIR⟩-Y ∷ a ADC ⟨DIR⟩ ∷ a ADC ⟨SR⟩-Y ∷
    o LDM DIR-X ∷ a ADC DIR-X ∷ o ROR DIR-X ∷ a ADC L⟨DIR⟩-Y ∷
    o SEI IMP ∷ a ADC ABS-Y ∷ o PLY STK ∷ o TDA IMP ∷
    o JMP ⟨ABS-X⟩ ∷ a ADC ABS-X ∷ o ROR ABS-X ∷ a ADC ABL-X ∷ []) ∷
    -- 8
    (o BRA REL ∷ a STA ⟨DIR-X⟩ ∷ far BRA REL ∷ a STA SR ∷
    o STY DIR ∷ a STA DIR ∷ o STX DIR ∷ a STA L⟨DIR⟩ ∷
    o DEY IMP ∷ none ∷ o TXA IMP ∷ o PHT STK ∷
    o STY ABS ∷ a STA ABS ∷ o STX ABS ∷ a STA ABL ∷ []) ∷
    -- 9
    (o BCC REL ∷ a STA ⟨DIR⟩-Y ∷ a STA ⟨DIR⟩ ∷ a STA ⟨SR⟩-Y ∷
    o STY DIR-X ∷ a STA DIR-X ∷ o STX DIR-Y ∷ a STA L⟨DIR⟩-Y ∷
    o TYA IMP ∷ a STA ABS-Y ∷ o TXS IMP ∷ o TXY IMP ∷
    o LDM ABS ∷ a STA ABS-X ∷ o LDM ABS-X ∷ a STA ABL-X ∷ []) ∷
    -- A
    (o LDY IMM ∷ a LDA ⟨DIR-X⟩ ∷ o LDX IMM ∷ a LDA SR ∷
    o LDY DIR ∷ a LDA DIR ∷ o LDX DIR ∷ a LDA L⟨DIR⟩ ∷
    o TAY IMP ∷ a LDA IMM ∷ o TAX IMP ∷ o PLT STK ∷
    o LDY ABS ∷ a LDA ABS ∷ o LDX ABS ∷ a LDA ABL ∷ []) ∷
    -- B
    (o BCS REL ∷ a LDA ⟨DIR⟩-Y ∷ a LDA ⟨DIR⟩ ∷ a LDA ⟨SR⟩-Y ∷
    o LDY DIR-X ∷ a LDA DIR-X ∷ o LDX DIR-Y ∷ a LDA L⟨DIR⟩-Y ∷
    o CLV IMP ∷ a LDA ABS-Y ∷ o TSX IMP ∷ o TYX IMP ∷
    o LDY ABS-X ∷ a LDA ABS-X ∷ o LDX ABS-Y ∷ a LDA ABL-X ∷ []) ∷
    -- C
    (o CPY IMM ∷ a CMP ⟨DIR-X⟩ ∷ o CLP IMM ∷ a CMP SR ∷
    o CPY DIR ∷ a CMP DIR ∷ o DEC DIR ∷ a CMP L⟨DIR⟩ ∷
    o INY IMP ∷ a CMP IMM ∷ o DEX IMP ∷ o WIT IMP ∷
    o CPY ABS ∷ a CMP ABS ∷ o DEC ABS ∷ a CMP ABL ∷ []) ∷
    -- D
    (o BNE REL ∷ a CMP ⟨DIR⟩-Y ∷ a CMP ⟨DIR⟩ ∷ a CMP ⟨SR⟩-Y ∷
    o PEI STK ∷ a CMP DIR-X ∷ o DEC DIR-X ∷ a CMP L⟨DIR⟩-Y ∷
    o CLM IMP ∷ a CMP ABS-Y ∷ o PHX STK ∷ o STP IMP ∷
    o JMP L⟨ABS⟩ ∷ a CMP ABS-X ∷ o DEC ABS-X ∷ a CMP ABL-X ∷ []) ∷
    -- E
    (o CPX IMM ∷ a SBC ⟨DIR-X⟩ ∷ o SEP IMM ∷ a SBC SR ∷
    o CPX DIR ∷ a SBC DIR ∷ o INC DIR ∷ a SBC L⟨DIR⟩ ∷
    o INX IMP ∷ a SBC IMM ∷ o NOP IMP ∷ o PSH STK ∷
    o CPX ABS ∷ a SBC ABS ∷ o INC ABS ∷ a SBC ABL ∷ []) ∷
    -- F
    (o BEQ REL ∷ a SBC ⟨DIR⟩-Y ∷ a SBC ⟨DIR⟩ ∷ a SBC ⟨SR⟩-Y ∷
    o PEA STK ∷ a SBC DIR-X ∷ o INC DIR-X ∷ a SBC L⟨DIR⟩-Y ∷
    o SEM IMP ∷ a SBC ABS-Y ∷ o PLX STK ∷ o PUL STK ∷
    o JSR ⟨ABS-X⟩ ∷ a SBC ABS-X ∷ o INC ABS-X ∷ a SBC ABL-X ∷ []) ∷ []

-- Appendix C, INSTRUCTION CODE TABLE-2 (the first byte is 42)
unfoldable pub behind42 : List (List Form)
behind42 =
    -- 0
    (none ∷ b ORA ⟨DIR-X⟩ ∷ none ∷ b ORA SR ∷
    none ∷ b ORA DIR ∷ none ∷ b ORA L⟨DIR⟩ ∷
    none ∷ b ORA IMM ∷ b ASL ACC ∷ none ∷
    none ∷ b ORA ABS ∷ none ∷ b ORA ABL ∷ []) ∷
    -- 1
    (none ∷ b ORA ⟨DIR⟩-Y ∷ b ORA ⟨DIR⟩ ∷ b ORA ⟨SR⟩-Y ∷
    none ∷ b ORA DIR-X ∷ none ∷ b ORA L⟨DIR⟩-Y ∷
    none ∷ b ORA ABS-Y ∷ b DEC ACC ∷ o TBS IMP ∷
    none ∷ b ORA ABS-X ∷ none ∷ b ORA ABL-X ∷ []) ∷
    -- 2
    (none ∷ b AND ⟨DIR-X⟩ ∷ none ∷ b AND SR ∷
    none ∷ b AND DIR ∷ none ∷ b AND L⟨DIR⟩ ∷
    none ∷ b AND IMM ∷ b ROL ACC ∷ none ∷
    none ∷ b AND ABS ∷ none ∷ b AND ABL ∷ []) ∷
    -- 3
    (none ∷ b AND ⟨DIR⟩-Y ∷ b AND ⟨DIR⟩ ∷ b AND ⟨SR⟩-Y ∷
    none ∷ b AND DIR-X ∷ none ∷ b AND L⟨DIR⟩-Y ∷
    none ∷ b AND ABS-Y ∷ b INC ACC ∷ o TSB IMP ∷
    none ∷ b AND ABS-X ∷ none ∷ b AND ABL-X ∷ []) ∷
    -- 4
    (none ∷ b EOR ⟨DIR-X⟩ ∷ none ∷ b EOR SR ∷
    none ∷ b EOR DIR ∷ none ∷ b EOR L⟨DIR⟩ ∷
    o PHB STK ∷ b EOR IMM ∷ b LSR ACC ∷ none ∷
    none ∷ b EOR ABS ∷ none ∷ b EOR ABL ∷ []) ∷
    -- 5
    (none ∷ b EOR ⟨DIR⟩-Y ∷ b EOR ⟨DIR⟩ ∷ b EOR ⟨SR⟩-Y ∷
    none ∷ b EOR DIR-X ∷ none ∷ b EOR L⟨DIR⟩-Y ∷
    none ∷ b EOR ABS-Y ∷ none ∷ o TBD IMP ∷
    none ∷ b EOR ABS-X ∷ none ∷ b EOR ABL-X ∷ []) ∷
    -- 6
    (none ∷ b ADC ⟨DIR-X⟩ ∷ none ∷ b ADC SR ∷
    none ∷ b ADC DIR ∷ none ∷ b ADC L⟨DIR⟩ ∷
    o PLB STK ∷ b ADC IMM ∷ b ROR ACC ∷ none ∷
    none ∷ b ADC ABS ∷ none ∷ b ADC ABL ∷ []) ∷
    -- 7
    (none ∷ b ADC ⟨DIR⟩-Y ∷ b ADC ⟨DIR⟩ ∷ b ADC ⟨SR⟩-Y ∷
    none ∷ b ADC DIR-X ∷ none ∷ b ADC L⟨DIR⟩-Y ∷
    none ∷ b ADC ABS-Y ∷ none ∷ o TDB IMP ∷
    none ∷ b ADC ABS-X ∷ none ∷ b ADC ABL-X ∷ []) ∷
    -- 8
    (none ∷ b STA ⟨DIR-X⟩ ∷ none ∷ b STA SR ∷
    none ∷ b STA DIR ∷ none ∷ b STA L⟨DIR⟩ ∷
    none ∷ none ∷ o TXB IMP ∷ none ∷
    none ∷ b STA ABS ∷ none ∷ b STA ABL ∷ []) ∷
    -- 9
    (none ∷ b STA ⟨DIR⟩-Y ∷ b STA ⟨DIR⟩ ∷ b STA ⟨SR⟩-Y ∷
    none ∷ b STA DIR-X ∷ none ∷ b STA L⟨DIR⟩-Y ∷
    o TYB IMP ∷ b STA ABS-Y ∷ none ∷ none ∷
    none ∷ b STA ABS-X ∷ none ∷ b STA ABL-X ∷ []) ∷
    -- A
    (none ∷ b LDA ⟨DIR-X⟩ ∷ none ∷ b LDA SR ∷
    none ∷ b LDA DIR ∷ none ∷ b LDA L⟨DIR⟩ ∷
    o TBY IMP ∷ b LDA IMM ∷ o TBX IMP ∷ none ∷
    none ∷ b LDA ABS ∷ none ∷ b LDA ABL ∷ []) ∷
    -- B
    (none ∷ b LDA ⟨DIR⟩-Y ∷ b LDA ⟨DIR⟩ ∷ b LDA ⟨SR⟩-Y ∷
    none ∷ b LDA DIR-X ∷ none ∷ b LDA L⟨DIR⟩-Y ∷
    none ∷ b LDA ABS-Y ∷ none ∷ none ∷
    none ∷ b LDA ABS-X ∷ none ∷ b LDA ABL-X ∷ []) ∷
    -- C
    (none ∷ b CMP ⟨DIR-X⟩ ∷ none ∷ b CMP SR ∷
    none ∷ b CMP DIR ∷ none ∷ b CMP L⟨DIR⟩ ∷
    none ∷ b CMP IMM ∷ none ∷ none ∷
    none ∷ b CMP ABS ∷ none ∷ b CMP ABL ∷ []) ∷
    -- D
    (none ∷ b CMP ⟨DIR⟩-Y ∷ b CMP ⟨DIR⟩ ∷ b CMP ⟨SR⟩-Y ∷
    none ∷ b CMP DIR-X ∷ none ∷ b CMP L⟨DIR⟩-Y ∷
    none ∷ b CMP ABS-Y ∷ none ∷ none ∷
    none ∷ b CMP ABS-X ∷ none ∷ b CMP ABL-X ∷ []) ∷
    -- E
    (none ∷ b SBC ⟨DIR-X⟩ ∷ none ∷ b SBC SR ∷
    none ∷ b SBC DIR ∷ none ∷ b SBC L⟨DIR⟩ ∷
    none ∷ b SBC IMM ∷ none ∷ none ∷
    none ∷ b SBC ABS ∷ none ∷ b SBC ABL ∷ []) ∷
    -- F
    (none ∷ b SBC ⟨DIR⟩-Y ∷ b SBC ⟨DIR⟩ ∷ b SBC ⟨SR⟩-Y ∷
    none ∷ b SBC DIR-X ∷ none ∷ b SBC L⟨DIR⟩-Y ∷
    none ∷ b SBC ABS-Y ∷ none ∷ none ∷
    none ∷ b SBC ABS-X ∷ none ∷ b SBC ABL-X ∷ []) ∷ []

-- Appendix C, INSTRUCTION CODE TABLE-3 (the first byte is 89)
unfoldable pub behind89 : List (List Form)
behind89 =
    -- 0
    (none ∷ o MPY ⟨DIR-X⟩ ∷ none ∷ o MPY SR ∷
    none ∷ o MPY DIR ∷ none ∷ o MPY L⟨DIR⟩ ∷
    none ∷ o MPY IMM ∷ none ∷ none ∷
    none ∷ o MPY ABS ∷ none ∷ o MPY ABL ∷ []) ∷
    -- 1
    (none ∷ o MPY ⟨DIR⟩-Y ∷ o MPY ⟨DIR⟩ ∷ o MPY ⟨SR⟩-Y ∷
    none ∷ o MPY DIR-X ∷ none ∷ o MPY L⟨DIR⟩-Y ∷
    none ∷ o MPY ABS-Y ∷ none ∷ none ∷
    none ∷ o MPY ABS-X ∷ none ∷ o MPY ABL-X ∷ []) ∷
    -- 2
    (none ∷ o DIV ⟨DIR-X⟩ ∷ none ∷ o DIV SR ∷
    none ∷ o DIV DIR ∷ none ∷ o DIV L⟨DIR⟩ ∷
    o XAB IMP ∷ o DIV IMM ∷ none ∷ none ∷
    none ∷ o DIV ABS ∷ none ∷ o DIV ABL ∷ []) ∷
    -- 3
    (none ∷ o DIV ⟨DIR⟩-Y ∷ o DIV ⟨DIR⟩ ∷ o DIV ⟨SR⟩-Y ∷
    none ∷ o DIV DIR-X ∷ none ∷ o DIV L⟨DIR⟩-Y ∷
    none ∷ o DIV ABS-Y ∷ none ∷ none ∷
    none ∷ o DIV ABS-X ∷ none ∷ o DIV ABL-X ∷ []) ∷
    -- 4
    (none ∷ none ∷ none ∷ none ∷
    none ∷ none ∷ none ∷ none ∷
    none ∷ o RLA IMM ∷ none ∷ none ∷
    none ∷ none ∷ none ∷ none ∷ []) ∷
    -- 5
    empty_row ∷
    -- 6
    empty_row ∷
    -- 7
    empty_row ∷
    -- 8
    empty_row ∷
    -- 9
    empty_row ∷
    -- A
    empty_row ∷
    -- B
    empty_row ∷
    -- C
    (none ∷ none ∷ o LDT IMM ∷ none ∷
    none ∷ none ∷ none ∷ none ∷
    none ∷ none ∷ none ∷ none ∷
    none ∷ none ∷ none ∷ none ∷ []) ∷
    -- D
    empty_row ∷
    -- E
    empty_row ∷
    -- F
    empty_row ∷ []

-- the three pages, by their number: 0 plain, 1 behind 42, 2 behind 89
unfoldable pub pages : List (List (List Form))
pages = plain ∷ behind42 ∷ behind89 ∷ []
