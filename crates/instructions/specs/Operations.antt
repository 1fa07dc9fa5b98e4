-- The manual's instructions, and the groups of them that document 01 and the manual speak of.
-- Assumes nothing.
use Rattle.std.specs.Prelude.{ℕ, Bool, false, ◌||◌, List, [], ◌∷◌, eqb}
use Rattle.types.specs.declared.code.Operation.{Operation}
use Rattle.types.specs.declared.code.Operation.TheVariants as ops
use ops.{Unassigned, ADC, AND, ASL, BBC, BBS, BCC, BCS, BEQ, BMI, BNE, BPL, BRA, BRK, BVC, BVS, CLB, CLC, CLI, CLM}
use ops.{CLP, CLV, CMP, CPX, CPY, DEC, DEX, DEY, DIV, EOR, INC, INX, INY, JMP, JSR, LDA, LDM, LDT, LDX, LDY, LSR}
use ops.{MPY, MVN, MVP, NOP, ORA, PEA, PEI, PER, PHA, PHB, PHD, PHG, PHP, PHT, PHX, PHY, PLA, PLB, PLD, PLP, PLT}
use ops.{PLX, PLY, PSH, PUL, RLA, ROL, ROR, RTI, RTL, RTS, SBC, SEB, SEC, SEI, SEM, SEP, STA, STP, STX, STY, TAD}
use ops.{TAS, TAX, TAY, TBD, TBS, TBX, TBY, TDA, TDB, TSA, TSB, TSX, TXA, TXB, TXS, TXY, TYA, TYB, TYX, WIT, XAB}

-- the manual's alphabetical order (4.2), behind an unassigned code
abbrev pub operations : List Operation
operations =
    Unassigned ∷
    ADC ∷ AND ∷ ASL ∷ BBC ∷ BBS ∷ BCC ∷ BCS ∷ BEQ ∷ BMI ∷ BNE ∷ BPL ∷ BRA ∷ BRK ∷ BVC ∷ BVS ∷ CLB ∷
    CLC ∷ CLI ∷ CLM ∷ CLP ∷ CLV ∷ CMP ∷ CPX ∷ CPY ∷ DEC ∷ DEX ∷ DEY ∷ DIV ∷ EOR ∷ INC ∷ INX ∷ INY ∷
    JMP ∷ JSR ∷ LDA ∷ LDM ∷ LDT ∷ LDX ∷ LDY ∷ LSR ∷ MPY ∷ MVN ∷ MVP ∷ NOP ∷ ORA ∷ PEA ∷ PEI ∷ PER ∷
    PHA ∷ PHB ∷ PHD ∷ PHG ∷ PHP ∷ PHT ∷ PHX ∷ PHY ∷ PLA ∷ PLB ∷ PLD ∷ PLP ∷ PLT ∷ PLX ∷ PLY ∷ PSH ∷
    PUL ∷ RLA ∷ ROL ∷ ROR ∷ RTI ∷ RTL ∷ RTS ∷ SBC ∷ SEB ∷ SEC ∷ SEI ∷ SEM ∷ SEP ∷ STA ∷ STP ∷ STX ∷
    STY ∷ TAD ∷ TAS ∷ TAX ∷ TAY ∷ TBD ∷ TBS ∷ TBX ∷ TBY ∷ TDA ∷ TDB ∷ TSA ∷ TSB ∷ TSX ∷ TXA ∷ TXB ∷
    TXS ∷ TXY ∷ TYA ∷ TYB ∷ TYX ∷ WIT ∷ XAB ∷ []

-- an operation's place in it
abbrev pub place : Operation → ℕ
place Unassigned = 0
place ADC = 1
place AND = 2
place ASL = 3
place BBC = 4
place BBS = 5
place BCC = 6
place BCS = 7
place BEQ = 8
place BMI = 9
place BNE = 10
place BPL = 11
place BRA = 12
place BRK = 13
place BVC = 14
place BVS = 15
place CLB = 16
place CLC = 17
place CLI = 18
place CLM = 19
place CLP = 20
place CLV = 21
place CMP = 22
place CPX = 23
place CPY = 24
place DEC = 25
place DEX = 26
place DEY = 27
place DIV = 28
place EOR = 29
place INC = 30
place INX = 31
place INY = 32
place JMP = 33
place JSR = 34
place LDA = 35
place LDM = 36
place LDT = 37
place LDX = 38
place LDY = 39
place LSR = 40
place MPY = 41
place MVN = 42
place MVP = 43
place NOP = 44
place ORA = 45
place PEA = 46
place PEI = 47
place PER = 48
place PHA = 49
place PHB = 50
place PHD = 51
place PHG = 52
place PHP = 53
place PHT = 54
place PHX = 55
place PHY = 56
place PLA = 57
place PLB = 58
place PLD = 59
place PLP = 60
place PLT = 61
place PLX = 62
place PLY = 63
place PSH = 64
place PUL = 65
place RLA = 66
place ROL = 67
place ROR = 68
place RTI = 69
place RTL = 70
place RTS = 71
place SBC = 72
place SEB = 73
place SEC = 74
place SEI = 75
place SEM = 76
place SEP = 77
place STA = 78
place STP = 79
place STX = 80
place STY = 81
place TAD = 82
place TAS = 83
place TAX = 84
place TAY = 85
place TBD = 86
place TBS = 87
place TBX = 88
place TBY = 89
place TDA = 90
place TDB = 91
place TSA = 92
place TSB = 93
place TSX = 94
place TXA = 95
place TXB = 96
place TXS = 97
place TXY = 98
place TYA = 99
place TYB = 100
place TYX = 101
place WIT = 102
place XAB = 103

-- an operation is one of a group
abbrev pub is_in : List Operation → Operation → Bool
is_in [] o = false
is_in (p ∷ ps) o = eqb (place o) (place p) || is_in ps o

-- 01, 'Not carried'; the JMP and JSR through memory are told by their addressing modes
abbrev pub never_carried : List Operation
never_carried = Unassigned ∷ BRK ∷ RTI ∷ PLP ∷ PSH ∷ PUL ∷ MVN ∷ MVP ∷ MPY ∷ DIV ∷ []

-- 01, 'Successors': a branch goes on or to its target
abbrev pub branches : List Operation
branches = BBC ∷ BBS ∷ BCC ∷ BCS ∷ BEQ ∷ BMI ∷ BNE ∷ BPL ∷ BVC ∷ BVS ∷ []

-- 01, 'Successors': BRA and JMP go to the target alone
abbrev pub jumps : List Operation
jumps = BRA ∷ JMP ∷ []

-- 01, number 22
abbrev pub halts : List Operation
halts = STP ∷ WIT ∷ []

-- manual 4.2: instructions whose data has the length of the index registers
abbrev pub by_index : List Operation
by_index =
    CPX ∷ CPY ∷ DEX ∷ DEY ∷ INX ∷ INY ∷ LDX ∷ LDY ∷ PHX ∷ PHY ∷ PLX ∷ PLY ∷ STX ∷ STY ∷ TAX ∷ TAY ∷
    TBX ∷ TBY ∷ TSX ∷ TXY ∷ TYX ∷ []

-- manual 4.2: instructions whose data is one byte at every width
abbrev pub of_byte : List Operation
of_byte = CLP ∷ LDT ∷ MVN ∷ MVP ∷ PHG ∷ PHT ∷ PLT ∷ SEP ∷ []

-- manual 4.2: instructions whose data is two bytes at every width
abbrev pub of_word : List Operation
of_word =
    PEA ∷ PEI ∷ PER ∷ PHD ∷ PHP ∷ PLD ∷ PLP ∷ TAD ∷ TAS ∷ TBD ∷ TBS ∷ TXS ∷ []

-- manual 4.2: instructions without data of one width: control flow, flags, and PSH and PUL, which move several
-- registers
abbrev pub without_data : List Operation
without_data =
    Unassigned ∷ BCC ∷ BCS ∷ BEQ ∷ BMI ∷ BNE ∷ BPL ∷ BRA ∷ BRK ∷ BVC ∷ BVS ∷ CLC ∷ CLI ∷ CLM ∷
    CLV ∷ JMP ∷ JSR ∷ NOP ∷ PSH ∷ PUL ∷ RTI ∷ RTL ∷ RTS ∷ SEC ∷ SEI ∷ SEM ∷ STP ∷ WIT ∷ []
