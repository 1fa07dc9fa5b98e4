-- SEP and CLP as steps: both numbers as stacks of bits, joined bit by bit.
-- Assumes nothing.
use Rattle.std.specs.Prelude.{Ok}
use mathlib.Core.Path.{◌≡◌, refl, sym, ap, ap₂, ◌∙◌}
use mathlib.Core.Bool.{Bool, true, false, not, ◌&&◌, ◌||◌}
use mathlib.Core.List.{List, [], ◌∷◌}
use Prim.Native.Nat.{ℕ, ◌+◌, ◌-◌, ◌*◌, ◌/◌, ◌%◌, ◌^◌, ◌<◌, min, max}
use native.Mathlib.Nat.{mod-eq_of_lt, div-eq_of_lt, pow-suc}
use native.Mathlib.Omega.{arith}
use lib.Bits.{bit_and, bit_or, and_step, or_step, and_mask, or_zero_r}
use lib.Dec.{eqb, T}
use lib.ListN.{length, get_or}
use Rattle.types.specs.declared.code.Operation.{Operation}
use Rattle.types.specs.declared.code.Instruction.{Instruction}
use Rattle.types.specs.declared.machine.Status.{Status}
use Rattle.types.specs.declared.machine.State.{State}
use Rattle.types.specs.declared.machine.OperandPlace.{OperandPlace}
use Rattle.types.specs.declared.code.Entry.{Entry}
use Rattle.prelude.specs.Choice.{pick, bit}
use Rattle.instructions.specs.Operations.{is_in}
use Rattle.instructions.specs.CodeMap.{prefix_bytes, entry_at, flow_of, width_effect_of as changesOf, width_of}
use Rattle.instructions.specs.Decode.{page_of}
use Rattle.instructions.specs.Successors.{set_bit, clear_bit, m_after, x_after}
use Rattle.types.specs.Status.{mask_x, mask_m, is_set, status_of, number_of}
use Rattle.anywidth.specs.AnyWidth.{size, low, cleared_by}
use Rattle.semantics.specs.Memory.{Memory}
use Rattle.semantics.specs.Addressing.{operand_place_of, data_of, operand_by}
use Rattle.semantics.specs.Arithmetic.{with_widths, with_flags_set, with_flags_cleared}
use Rattle.semantics.specs.Effects.{effect_of}
use Rattle.semantics.specs.Step.{bytes_from, fetched, place_of, operates, plan_by_within, step_within}
use Rattle.semantics.specs.StatusBits.{byte_behind, SepSets, ClpClears}
use Rattle.instructions.specs.CodePages.{plain, behind42, behind89, pages}
use Rattle.instructions.proofs.Decode.{decoded_entry}
use Rattle.prelude.proofs.Choice.{bit_not}
use Rattle.semantics.proofs.Status.{status_number, stacked, without_lowest, lowest_bit, flags_of, number_stacked}
use Rattle.instructions.proofs.CodeMap.{page_test, tested_at}
use Rattle.prelude.proofs.Table.{every}

-- the data of SEP and CLP stands behind the code
abbrev is_behind : OperandPlace → Bool
is_behind OperandPlace.Memory = false
is_behind OperandPlace.Instruction = true
is_behind OperandPlace.Register = false

abbrev behind_code : ℕ → Entry → Bool
behind_code prefix e =
    not (is_in (Operation.SEP ∷ Operation.CLP ∷ []) e.operation) || is_behind (operand_place_of e.mode)

all_behind : T (every (page_test behind_code) 0 pages)
unfolding pages plain behind42 behind89
all_behind = tt

is_behind_lem : (r : OperandPlace) → T (is_behind r) → r ≡ OperandPlace.Instruction
is_behind_lem OperandPlace.Memory t = absurd t
is_behind_lem OperandPlace.Instruction t = refl
is_behind_lem OperandPlace.Register t = absurd t

pub data_behind : (page code : ℕ) (operation : Operation) → (entry_at page code).operation ≡ operation
    → is_in (Operation.SEP ∷ Operation.CLP ∷ []) operation ≡ true
    → operand_place_of (entry_at page code).mode ≡ OperandPlace.Instruction
data_behind page code operation same one =
    is_behind_lem (operand_place_of (entry_at page code).mode)
    (rw (same, one) at (tested_at behind_code (λ p. tt) all_behind page code))

-- ---- an operation on bits, bit by bit
module _ (op digit : ℕ → ℕ → ℕ) (on : Bool → Bool → Bool)
    (by_digits : (a b : ℕ) → op a b ≡ op (a / 2) (b / 2) * 2 + digit (a % 2) (b % 2))
    (is-on : (f g : Bool) → digit (bit f) (bit g) ≡ bit (on f g)) where
  abbrev joined : List Bool → List Bool → List Bool
  joined [] gs = []
  joined (f ∷ fs) [] = []
  joined (f ∷ fs) (g ∷ gs) = on f g ∷ joined fs gs

  stacks_join : (fs gs : List Bool) (l k : ℕ) → length fs ≡ length gs
      → op (stacked fs l) (stacked gs k) ≡ stacked (joined fs gs) (op l k)
  stacks_join [] [] l k same = refl
  stacks_join [] (g ∷ gs) l k same = absurd (omega arith)
  stacks_join (f ∷ fs) [] l k same = absurd (omega arith)
  stacks_join (f ∷ fs) (g ∷ gs) l k same =
      by_digits (bit f + 2 * stacked fs l) (bit g + 2 * stacked gs k)
      ∙ rw (
        without_lowest f (stacked fs l),
        without_lowest g (stacked gs k),
        lowest_bit f (stacked fs l),
        lowest_bit g (stacked gs k),
        is-on f g,
        stacks_join fs gs l k (omega arith),
      ) (omega arith)

either_bit : (f g : Bool) → max (bit f) (bit g) ≡ bit (g || f)
either_bit true true = refl
either_bit true false = refl
either_bit false true = refl
either_bit false false = refl

both_bit : (f g : Bool) → min (bit f) (bit g) ≡ bit (g && f)
both_bit true true = refl
both_bit true false = refl
both_bit false true = refl
both_bit false false = refl

-- ---- statuses
-- a byte as the stack of its flags
byte_stacked : (v : ℕ) → v < 256 → v ≡ stacked (flags_of (status_of v)) 0
byte_stacked v h =
    sym (status_number v) ∙ number_stacked (status_of v) ∙ ap (stacked (flags_of (status_of v))) (div-eq_of_lt h)

-- all flags set, and cleared, by a byte
abbrev set_by : ℕ → Status → Status
set_by v s = with_widths (is_set mask_m v || s.m) (is_set mask_x v || s.x) (with_flags_set v s)

abbrev cleared_bits : ℕ → Status → Status
cleared_bits v s = with_widths (not (is_set mask_m v) && s.m) (not (is_set mask_x v) && s.x) (with_flags_cleared v s)

set_number : (v : ℕ) (s : Status) → v < 256 → number_of (set_by v s) ≡ bit_or (number_of s) v
set_number v s h =
    number_stacked (set_by v s)
    ∙ sym
    (ap₂ bit_or (number_stacked s) (byte_stacked v h)
    ∙ stacks_join bit_or max (λ f g. g || f) or_step either_bit (flags_of s) (flags_of (status_of v)) s.level 0 refl
    ∙ ap (stacked (flags_of (set_by v s))) (or_zero_r s.level))

-- what a stack lacks to all bits is the stack of the other flags
abbrev nots : List Bool → List Bool
nots [] = []
nots (f ∷ fs) = not f ∷ nots fs

others : (fs : List Bool) (l k : ℕ) → stacked fs l + stacked (nots fs) k + 1 ≡ (l + k + 1) * 2 ^ length fs
others [] l k = omega arith
others (f ∷ fs) l k = rw (pow-suc 2 (length fs)) (omega (arith, bit_not f, others fs l k))

other_bits_lem : (v : ℕ) → v < 256 → 65_535 - v ≡ stacked (nots (flags_of (status_of v))) 255
other_bits_lem v h = omega (arith, byte_stacked v h, others (flags_of (status_of v)) 0 255)

cleared_number : (v : ℕ) (s : Status) → v < 256 → number_of s < size 16
    → number_of (cleared_bits v s) ≡ cleared_by 16 v (number_of s)
cleared_number v s h k =
    number_stacked (cleared_bits v s)
    ∙ sym
    (rw (mod-eq_of_lt {n = v} {m = 65_536} (omega arith), other_bits_lem v h)
    (ap (λ w. bit_and w (stacked (nots (flags_of (status_of v))) 255)) (number_stacked s)
    ∙ stacks_join bit_and min (λ f g. g && f) and_step both_bit (flags_of s) (nots (flags_of (status_of v))) s.level 255
    refl
    ∙ ap (stacked (flags_of (cleared_bits v s))) (and_mask s.level 8 ∙ mod-eq_of_lt (omega arith))))

-- ---- the step
-- a width as a number, and as a flag
set_width : (mask operand : ℕ) (flag : Bool) → operand / mask % 2 ≡ low 8 operand / mask % 2
    → eqb (set_bit (bit flag) (operand / mask % 2)) 1 ≡ (is_set mask (low 8 operand) || flag)
set_width mask operand flag same = rw same (by (is_set mask (low 8 operand)) flag)
  where
    by : (t f : Bool) → eqb (pick t 1 (bit f)) 1 ≡ (t || f)
    by true f = refl
    by false true = refl
    by false false = refl

clear_width : (mask operand : ℕ) (flag : Bool) → operand / mask % 2 ≡ low 8 operand / mask % 2
    → eqb (clear_bit (bit flag) (operand / mask % 2)) 1 ≡ (not (is_set mask (low 8 operand)) && flag)
clear_width mask operand flag same = rw same (by (is_set mask (low 8 operand)) flag)
  where
    by : (t f : Bool) → eqb (pick t 0 (bit f)) 1 ≡ (not t && f)
    by true f = refl
    by false true = refl
    by false false = refl

-- what the code map says of an instruction by its operation
pub record By (i : Instruction) (o : Operation) : Type 0 where
  pub operation : i.entry.operation ≡ o
  pub flow : i.entry.flow ≡ flow_of o i.entry.mode
  pub effect : i.entry.effect ≡ changesOf o
  pub width : i.entry.width ≡ width_of o
  pub behind : operand_place_of i.entry.mode ≡ OperandPlace.Instruction

by_entry : (i : Instruction) (page code : ℕ) (operation : Operation) → i.entry ≡ entry_at page code
    → i.entry.operation ≡ operation → is_in (Operation.SEP ∷ Operation.CLP ∷ []) operation ≡ true → By i operation
unfolding entry_at
by_entry i page code operation same is one =
    let is' : (entry_at page code).operation ≡ operation = rw same at is in
    record {
      operation = is;
      flow = rw same (ap (λ o. flow_of o (entry_at page code).mode) is');
      effect = rw same (ap changesOf is');
      width = rw same (ap width_of is');
      behind = rw same (data_behind page code operation is' one);
    }

by_code : (m : Memory) (s : State) (i : Instruction) (operation : Operation) → fetched m s.core ≡ Ok i
    → i.entry.operation ≡ operation → is_in (Operation.SEP ∷ Operation.CLP ∷ []) operation ≡ true → By i operation
by_code m s i operation fetches is one =
    let bytes = bytes_from m (place_of s.core) (length m.image) in
    let page = page_of (get_or bytes 0 0) in
    let status = s.core.registers.status in
    by_entry i page (get_or bytes (prefix_bytes page) 0) operation
    (decoded_entry bytes (bit status.m) (bit status.x) i fetches).0 is one

pub sep_sets : SepSets
unfolding step_within plan_by_within operates data_of operand_by effect_of m_after x_after
sep_sets m s i fetches is =
    let status = s.core.registers.status in
    let by = by_code m s i Operation.SEP fetches is refl in
    rw (
      fetches,
      by.flow,
      by.operation,
      by.width,
      by.behind,
      by.effect,
      set_width mask_m i.operand status.m (omega arith),
      set_width mask_x i.operand status.x (omega arith),
    )
    (refl, set_number (byte_behind i) status (omega arith))

pub clp_clears : ClpClears
unfolding step_within plan_by_within operates data_of operand_by effect_of m_after x_after
clp_clears m s i fetches is small =
    let status = s.core.registers.status in
    let by = by_code m s i Operation.CLP fetches is refl in
    rw (
      fetches,
      by.flow,
      by.operation,
      by.width,
      by.behind,
      by.effect,
      clear_width mask_m i.operand status.m (omega arith),
      clear_width mask_x i.operand status.x (omega arith),
    )
    (refl, cleared_number (byte_behind i) status (omega arith) small)
