-- How the code keeps an entry of the code map in one number of 32 bits: its fields side by side, each as a place in a
-- list. Nothing here is said of the MELPS 7700; that stands in `instructions`.
-- Assumes nothing.
use Rattle.std.specs.Prelude.{ℕ, ◌+◌, ◌*◌, ◌/◌, ◌%◌, Bool, true, false, List, [], ◌∷◌, map, eqb, get_or}
use Rattle.types.specs.declared.code.Operation.{Operation}
use Rattle.types.specs.declared.code.Mode.{Mode}
use Rattle.types.specs.declared.code.Accumulator.{Accumulator}
use Rattle.types.specs.declared.code.Kind.{Kind}
use Rattle.types.specs.declared.code.Flow.{Flow}
use Rattle.types.specs.declared.code.Target.{Target}
use Rattle.types.specs.declared.code.WidthEffect.{WidthEffect}
use Rattle.types.specs.declared.code.LengthRule.{LengthRule}
use Rattle.types.specs.declared.code.DataWidth.{DataWidth}
use Rattle.types.specs.declared.code.Entry.{Entry}
use Rattle.instructions.specs.Operations.{place}
pub use Rattle.instructions.specs.Operations.{operations}
use Rattle.instructions.specs.CodePages.{Form, plain, behind42, behind89}
use Rattle.instructions.specs.CodeMap.{entry_of}

-- each field's values in the order of their numbers
abbrev pub modes : List Mode
modes =
    Mode.Implied ∷ Mode.Immediate ∷ Mode.Accumulator ∷ Mode.Direct ∷ Mode.DirectBit ∷ Mode.DirectIndexedX ∷
    Mode.DirectIndexedY ∷ Mode.DirectIndirect ∷ Mode.DirectIndexedXIndirect ∷ Mode.DirectIndirectIndexedY ∷
    Mode.DirectIndirectLong ∷ Mode.DirectIndirectLongIndexedY ∷ Mode.Absolute ∷ Mode.AbsoluteBit ∷
    Mode.AbsoluteIndexedX ∷ Mode.AbsoluteIndexedY ∷ Mode.AbsoluteLong ∷ Mode.AbsoluteLongIndexedX ∷
    Mode.AbsoluteIndirect ∷ Mode.AbsoluteIndirectLong ∷ Mode.AbsoluteIndexedXIndirect ∷ Mode.Stack ∷ Mode.Relative ∷
    Mode.DirectBitRelative ∷ Mode.AbsoluteBitRelative ∷ Mode.StackPointerRelative ∷
    Mode.StackPointerRelativeIndirectIndexedY ∷ Mode.BlockTransfer ∷ []

abbrev pub accumulators : List Accumulator
accumulators = Accumulator.Unnamed ∷ Accumulator.A ∷ Accumulator.B ∷ []

abbrev pub flows : List Flow
flows =
    Flow.Next ∷ Flow.Branch ∷ Flow.Jump ∷ Flow.Call Kind.ByRts ∷ Flow.Call Kind.ByRtl ∷ Flow.Return Kind.ByRts ∷
    Flow.Return Kind.ByRtl ∷ Flow.Halt ∷ []

abbrev pub targets : List Target
targets = Target.NoTarget ∷ Target.Offset8 ∷ Target.Offset16 ∷ Target.Address16 ∷ Target.Address24 ∷ []

abbrev pub effects : List WidthEffect
effects =
    WidthEffect.KeepWidths ∷ WidthEffect.SetM ∷ WidthEffect.ClearM ∷ WidthEffect.SetBits ∷ WidthEffect.ClearBits ∷ []

abbrev pub rules : List LengthRule
rules = LengthRule.Fixed ∷ LengthRule.MoreByM ∷ LengthRule.MoreByX ∷ []

abbrev pub widths : List DataWidth
widths = DataWidth.NoData ∷ DataWidth.ByM ∷ DataWidth.ByX ∷ DataWidth.Byte ∷ DataWidth.Word ∷ []

-- the entry that a number keeps
unfoldable pub unpacked : ℕ → Entry
unpacked n = record {
  operation = get_or operations (n % 128) Operation.Unassigned;
  mode = get_or modes (n / 128 % 32) Mode.Implied;
  accumulator = get_or accumulators (n / 4096 % 4) Accumulator.Unnamed;
  carried = eqb (n / 16384 % 2) 1;
  flow = get_or flows (n / 32768 % 8) Flow.Next;
  target = get_or targets (n / 262144 % 8) Target.NoTarget;
  effect = get_or effects (n / 2097152 % 8) WidthEffect.KeepWidths;
  bytes = n / 16777216 % 8;
  rule = get_or rules (n / 134217728 % 4) LengthRule.Fixed;
  width = get_or widths (n / 536870912) DataWidth.NoData;
}

-- the place of each field's value in its list
abbrev pub mode_place : Mode → ℕ
mode_place Mode.Implied = 0
mode_place Mode.Immediate = 1
mode_place Mode.Accumulator = 2
mode_place Mode.Direct = 3
mode_place Mode.DirectBit = 4
mode_place Mode.DirectIndexedX = 5
mode_place Mode.DirectIndexedY = 6
mode_place Mode.DirectIndirect = 7
mode_place Mode.DirectIndexedXIndirect = 8
mode_place Mode.DirectIndirectIndexedY = 9
mode_place Mode.DirectIndirectLong = 10
mode_place Mode.DirectIndirectLongIndexedY = 11
mode_place Mode.Absolute = 12
mode_place Mode.AbsoluteBit = 13
mode_place Mode.AbsoluteIndexedX = 14
mode_place Mode.AbsoluteIndexedY = 15
mode_place Mode.AbsoluteLong = 16
mode_place Mode.AbsoluteLongIndexedX = 17
mode_place Mode.AbsoluteIndirect = 18
mode_place Mode.AbsoluteIndirectLong = 19
mode_place Mode.AbsoluteIndexedXIndirect = 20
mode_place Mode.Stack = 21
mode_place Mode.Relative = 22
mode_place Mode.DirectBitRelative = 23
mode_place Mode.AbsoluteBitRelative = 24
mode_place Mode.StackPointerRelative = 25
mode_place Mode.StackPointerRelativeIndirectIndexedY = 26
mode_place Mode.BlockTransfer = 27

abbrev pub accumulator_place : Accumulator → ℕ
accumulator_place Accumulator.Unnamed = 0
accumulator_place Accumulator.A = 1
accumulator_place Accumulator.B = 2

abbrev pub carried_place : Bool → ℕ
carried_place false = 0
carried_place true = 1

abbrev pub flow_place : Flow → ℕ
flow_place Flow.Next = 0
flow_place Flow.Branch = 1
flow_place Flow.Jump = 2
flow_place (Flow.Call Kind.ByRts) = 3
flow_place (Flow.Call Kind.ByRtl) = 4
flow_place (Flow.Return Kind.ByRts) = 5
flow_place (Flow.Return Kind.ByRtl) = 6
flow_place Flow.Halt = 7

abbrev pub target_place : Target → ℕ
target_place Target.NoTarget = 0
target_place Target.Offset8 = 1
target_place Target.Offset16 = 2
target_place Target.Address16 = 3
target_place Target.Address24 = 4

abbrev pub effect_place : WidthEffect → ℕ
effect_place WidthEffect.KeepWidths = 0
effect_place WidthEffect.SetM = 1
effect_place WidthEffect.ClearM = 2
effect_place WidthEffect.SetBits = 3
effect_place WidthEffect.ClearBits = 4

abbrev pub rule_place : LengthRule → ℕ
rule_place LengthRule.Fixed = 0
rule_place LengthRule.MoreByM = 1
rule_place LengthRule.MoreByX = 2

abbrev pub width_place : DataWidth → ℕ
width_place DataWidth.NoData = 0
width_place DataWidth.ByM = 1
width_place DataWidth.ByX = 2
width_place DataWidth.Byte = 3
width_place DataWidth.Word = 4

-- the number that keeps an entry
abbrev pub packed : Entry → ℕ
packed e =
    place e.operation + 128 * mode_place e.mode + 4096 * accumulator_place e.accumulator
    + 16384 * carried_place e.carried + 32768 * flow_place e.flow + 262144 * target_place e.target
    + 2097152 * effect_place e.effect + 16777216 * e.bytes + 134217728 * rule_place e.rule
    + 536870912 * width_place e.width

-- a page of numbers, behind so many prefix bytes
abbrev pub packed_page : ℕ → List (List Form) → List (List ℕ)
packed_page prefix page = map (map (λ f. packed (entry_of prefix f))) page

-- the three pages as numbers
unfoldable pub packed_pages : List (List (List ℕ))
unfolding plain behind42 behind89
packed_pages = packed_page 0 plain ∷ packed_page 1 behind42 ∷ packed_page 1 behind89 ∷ []

-- the number of a code of a page
abbrev pub packed_at : List (List (List ℕ)) → ℕ → ℕ → ℕ
packed_at codes page code = get_or (get_or (get_or codes page []) (code / 16) []) (code % 16) 0
