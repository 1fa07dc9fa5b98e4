-- 01, 'Rules of acceptance': the rules of successors, calls and returns in the fields of marks, as the paper words
-- them. What a start owes as a value (`owed_by`) is one way to say them; that it says these:
-- proofs/SuccessorRules.antt.
-- Assumes nothing.
use Rattle.std.specs.Prelude.{◌≡◌, true, List, ℕ, ◌+◌, ◌<◌, length, get_or, Ok}
use Rattle.types.specs.declared.code.Kind.{Kind}
use Rattle.types.specs.declared.code.Flow.{Flow}
use Rattle.types.specs.declared.code.Instruction.{Instruction}
use Rattle.acceptance.specs.Image.{is_start, mark_m, mark_x, mark_kind, return_m, return_x, mark_at}
use Rattle.acceptance.specs.Rules.{instruction_at, Accepts}
use Rattle.instructions.specs.Successors.{next_address, target_address, m_after, x_after, kind_number}

-- 'a marked start in the image' with these widths, this kind and these return widths
pub record StartWith (marks : List ℕ) (base address m x kind rm rx : ℕ) : Type 0 where
  pub start_there : is_start (mark_at marks base address) ≡ true
  pub has_m : mark_m (mark_at marks base address) ≡ m
  pub has_x : mark_x (mark_at marks base address) ≡ x
  pub has_kind : mark_kind (mark_at marks base address) ≡ kind
  pub has_return_m : return_m (mark_at marks base address) ≡ rm
  pub has_return_x : return_x (mark_at marks base address) ≡ rx

-- 'Each successor is a marked start in the image, has the same return kind and return widths, and has the widths in
-- force after the instruction.' `mark` is the instruction's own.
abbrev pub IsSuccessor : List ℕ → ℕ → Instruction → ℕ → ℕ → Type 0
IsSuccessor marks base i mark address =
    StartWith marks base address (m_after i.entry.effect (mark_m mark) i.operand)
    (x_after i.entry.effect (mark_x mark) i.operand) (mark_kind mark) (return_m mark) (return_x mark)

-- 'The target has the caller's widths and kind 1 (JSR) or 2 (JSR long)', and return widths of its own. 'The address
-- after has the target's return widths as its widths, and the caller's own kind and return widths.'
pub record CallRule (marks : List ℕ) (base : ℕ) (kind : Kind) (mark next target : ℕ) : Type 0 where
  pub returning_m : ℕ
  pub returning_x : ℕ
  pub into : StartWith marks base target (mark_m mark) (mark_x mark) (kind_number kind) returning_m returning_x
  pub behind : StartWith marks base next returning_m returning_x (mark_kind mark) (return_m mark) (return_x mark)

-- 'RTS stands only under kind 1, RTL only under kind 2, each at the marked return widths.'
pub record ReturnRule (kind : Kind) (mark : ℕ) : Type 0 where
  pub own_kind : mark_kind mark ≡ kind_number kind
  pub at_m : mark_m mark ≡ return_m mark
  pub at_x : mark_x mark ≡ return_x mark

-- 'Successors: the next address; for a branch also next address plus signed offset ..; for BRA and JMP the target
-- alone. STP, WIT, RTS and RTL have none.'
abbrev pub FlowRule : Flow → List ℕ → ℕ → Instruction → ℕ → ℕ → ℕ → Type 0
FlowRule Flow.Next marks base i mark next target = IsSuccessor marks base i mark next
FlowRule Flow.Branch marks base i mark next target =
    IsSuccessor marks base i mark next × IsSuccessor marks base i mark target
FlowRule Flow.Jump marks base i mark next target = IsSuccessor marks base i mark target
FlowRule (Flow.Call kind) marks base i mark next target = CallRule marks base kind mark next target
FlowRule (Flow.Return kind) marks base i mark next target = ReturnRule kind mark
FlowRule Flow.Halt marks base i mark next target = Unit {0}

-- every start of an accepted image keeps the rule of its flow
abbrev pub SuccessorRules : Type 0
SuccessorRules =
    (image marks : List ℕ) (base reset at : ℕ) (i : Instruction) → Accepts image marks base reset → at < length marks
    → is_start (get_or marks at 0) ≡ true → instruction_at image marks at ≡ Ok i
    → FlowRule i.entry.flow marks base i (get_or marks at 0) (next_address (base + at) i.length)
    (target_address i (base + at))
