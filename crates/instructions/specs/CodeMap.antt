-- What an entry of the code map says: 01, 'Each entry gives operation, addressing mode, and how its length hangs on m
-- or x', and what the rules of acceptance and the machine ask of a code. Of a code that is not carried only the length
-- is ever asked, by the listing of the code map.
-- Assumes nothing.
use Rattle.std.specs.Prelude.{ℕ, ◌+◌, ◌/◌, ◌%◌, Bool, true, false, not, ◌&&◌, ◌||◌, [], ◌∷◌, eqb, get_or}
use Rattle.types.specs.declared.code.Operation.{Operation}
use Rattle.types.specs.declared.code.Mode.{Mode}
use Rattle.types.specs.declared.code.Kind.{Kind}
use Rattle.types.specs.declared.code.Flow.{Flow}
use Rattle.types.specs.declared.code.Target.{Target}
use Rattle.types.specs.declared.code.WidthEffect.{WidthEffect}
use Rattle.types.specs.declared.code.LengthRule.{LengthRule}
use Rattle.types.specs.declared.code.DataWidth.{DataWidth}
use Rattle.types.specs.declared.code.Entry.{Entry}
use Rattle.prelude.specs.Choice.{pick}
use Rattle.instructions.specs.Operations.{is_in, never_carried, branches, jumps, halts, by_index, of_byte, of_word}
use Rattle.instructions.specs.Operations.{without_data}
use Rattle.instructions.specs.CodePages.{Form, none, pages}

-- What a mode puts behind the code (manual 3.2): how many bytes at m=1 and x=1; whether immediate data is among them,
-- which has one byte more where the data has 16 bits; whether they end in a branch offset; whether they name the memory
-- that holds a jump's target.
pub record Shape : Type 0 where
  pub bytes : ℕ
  pub has_immediate : Bool
  pub has_offset : Bool
  pub through_memory : Bool

abbrev pub shape : ℕ → Bool → Bool → Bool → Shape
shape n i o t = record { bytes = n; has_immediate = i; has_offset = o; through_memory = t }

abbrev pub operand : ℕ → Shape
operand n = shape n false false false

abbrev pub immediate : ℕ → Shape
immediate n = shape n true false false

abbrev pub memory : ℕ → Shape
memory n = shape n false false true

abbrev pub shape_of : Mode → Shape
shape_of Mode.Implied = operand 0
shape_of Mode.Immediate = immediate 1
shape_of Mode.Accumulator = operand 0
shape_of Mode.Direct = operand 1
shape_of Mode.DirectBit = immediate 2
shape_of Mode.DirectIndexedX = operand 1
shape_of Mode.DirectIndexedY = operand 1
shape_of Mode.DirectIndirect = operand 1
shape_of Mode.DirectIndexedXIndirect = operand 1
shape_of Mode.DirectIndirectIndexedY = operand 1
shape_of Mode.DirectIndirectLong = operand 1
shape_of Mode.DirectIndirectLongIndexedY = operand 1
shape_of Mode.Absolute = operand 2
shape_of Mode.AbsoluteBit = immediate 3
shape_of Mode.AbsoluteIndexedX = operand 2
shape_of Mode.AbsoluteIndexedY = operand 2
shape_of Mode.AbsoluteLong = operand 3
shape_of Mode.AbsoluteLongIndexedX = operand 3
shape_of Mode.AbsoluteIndirect = memory 2
shape_of Mode.AbsoluteIndirectLong = memory 2
shape_of Mode.AbsoluteIndexedXIndirect = memory 2
shape_of Mode.Stack = operand 0
shape_of Mode.Relative = shape 1 false true false
shape_of Mode.DirectBitRelative = shape 3 true true false
shape_of Mode.AbsoluteBitRelative = shape 4 true true false
shape_of Mode.StackPointerRelative = operand 1
shape_of Mode.StackPointerRelativeIndirectIndexedY = operand 1
shape_of Mode.BlockTransfer = operand 2

-- the bytes that an operation has besides its mode's (manual 4.2): BRK's ignored byte, the mask of PSH and PUL, the
-- data of LDM, PEA, PEI and PER
abbrev pub own_bytes : Operation → ℕ
own_bytes operation =
    pick (is_in (Operation.BRK ∷ Operation.PSH ∷ Operation.PUL ∷ Operation.LDM ∷ Operation.PEI ∷ []) operation) 1
    (pick (is_in (Operation.PEA ∷ Operation.PER ∷ []) operation) 2 0)

-- 01, 'Not carried: .., every JMP or JSR through memory, and every unassigned code ..': all others are
abbrev pub carried_of : Operation → Mode → Bool
carried_of operation mode = not (is_in never_carried operation) && not (shape_of mode).through_memory

-- 01, 'Successors' and the rule of a call: JSR with a long address is JSR long
abbrev pub call_of : Mode → Flow
call_of mode = pick (eqb (shape_of mode).bytes 3) (Flow.Call Kind.ByRtl) (Flow.Call Kind.ByRts)

abbrev pub flow_of : Operation → Mode → Flow
flow_of operation mode =
    pick (is_in branches operation) Flow.Branch
    (pick (is_in jumps operation) Flow.Jump
    (pick (is_in (Operation.JSR ∷ []) operation) (call_of mode)
    (pick (is_in (Operation.RTS ∷ []) operation) (Flow.Return Kind.ByRts)
    (pick (is_in (Operation.RTL ∷ []) operation) (Flow.Return Kind.ByRtl)
    (pick (is_in halts operation) Flow.Halt Flow.Next)))))

-- 01, 'signed offset (8 or 16 bits)' of BRA and the branches; the address of JMP and JSR
abbrev pub target_form : Form → Target
target_form f =
    pick (shape_of f.mode).has_offset (pick f.is_far Target.Offset16 Target.Offset8)
    (pick (is_in (Operation.JMP ∷ Operation.JSR ∷ []) f.operation)
    (pick (eqb (shape_of f.mode).bytes 3) Target.Address24 Target.Address16)
    Target.NoTarget)

-- 01, 'Only SEM, CLM, SEP and CLP change them'
abbrev pub width_effect_of : Operation → WidthEffect
width_effect_of operation =
    pick (is_in (Operation.SEM ∷ []) operation) WidthEffect.SetM
    (pick (is_in (Operation.CLM ∷ []) operation) WidthEffect.ClearM
    (pick (is_in (Operation.SEP ∷ []) operation) WidthEffect.SetBits
    (pick (is_in (Operation.CLP ∷ []) operation) WidthEffect.ClearBits WidthEffect.KeepWidths)))

-- the width of the data: all instructions that no group names work by m (manual 2.9, flags m and x, and 4.2)
abbrev pub width_of : Operation → DataWidth
width_of operation =
    pick (is_in by_index operation) DataWidth.ByX
    (pick (is_in of_byte operation) DataWidth.Byte
    (pick (is_in of_word operation) DataWidth.Word
    (pick (is_in without_data operation) DataWidth.NoData DataWidth.ByM)))

-- 01, 'how its length hangs on m or x': immediate data is as wide as the data; LDM has it behind its mode's bytes
-- (Appendix B, notes 2, 5, 12 and 13)
abbrev pub rule_by : DataWidth → LengthRule
rule_by DataWidth.NoData = LengthRule.Fixed
rule_by DataWidth.ByM = LengthRule.MoreByM
rule_by DataWidth.ByX = LengthRule.MoreByX
rule_by DataWidth.Byte = LengthRule.Fixed
rule_by DataWidth.Word = LengthRule.Fixed

abbrev pub rule_of : Operation → Mode → LengthRule
rule_of operation mode =
    pick ((shape_of mode).has_immediate || is_in (Operation.LDM ∷ []) operation) (rule_by (width_of operation))
    LengthRule.Fixed

-- the length at m=1 and x=1: prefix, code, what stands behind it; an unassigned code has none
abbrev pub form_bytes : ℕ → Form → ℕ
form_bytes prefix f =
    pick (is_in (Operation.Unassigned ∷ []) f.operation) 0
    (prefix + 1 + (shape_of f.mode).bytes + own_bytes f.operation + pick f.is_far 1 0)

-- the entry of a form whose code stands behind so many prefix bytes
abbrev pub entry_of : ℕ → Form → Entry
entry_of prefix f = record {
  operation = f.operation;
  mode = f.mode;
  accumulator = f.accumulator;
  carried = carried_of f.operation f.mode;
  flow = flow_of f.operation f.mode;
  target = target_form f;
  effect = width_effect_of f.operation;
  bytes = form_bytes prefix f;
  rule = rule_of f.operation f.mode;
  width = width_of f.operation;
}

-- how many prefix bytes stand before the codes of a page
abbrev pub prefix_bytes : ℕ → ℕ
prefix_bytes page = pick (eqb page 0) 0 1

-- the entry of a code of a page: its row by the code's upper four bits, its column by the lower four
unfoldable pub entry_at : ℕ → ℕ → Entry
entry_at page code =
    entry_of (prefix_bytes page) (get_or (get_or (get_or pages page []) (code / 16) []) (code % 16) none)

-- 01, 'at each of the four widths': one byte more at m=0 or at x=0 where the rule says so
abbrev pub more_bytes : LengthRule → ℕ → ℕ → ℕ
more_bytes LengthRule.Fixed m x = 0
more_bytes LengthRule.MoreByM m x = pick (eqb m 0) 1 0
more_bytes LengthRule.MoreByX m x = pick (eqb x 0) 1 0

-- the length of a code at the widths m and x
abbrev pub length_at : Entry → ℕ → ℕ → ℕ
length_at e m x = e.bytes + more_bytes e.rule m x
