-- 01, 'Rules of acceptance': what a start owes its successors, and the rules as one predicate.
-- Assumes nothing.
use Rattle.std.specs.Prelude.{◌≡◌, ℕ, ◌+◌, ◌<◌, Bool, true, false, ◌&&◌, List, eqb, length, get_or, drop, Ok}
use Rattle.types.specs.declared.code.Kind.{Kind}
use Rattle.types.specs.declared.code.Flow.{Flow}
use Rattle.types.specs.declared.code.WidthEffect.{WidthEffect}
use Rattle.types.specs.declared.code.Instruction.{Instruction}
use Rattle.types.specs.Answers.{Decoded}
use Rattle.types.specs.declared.rules.Requirement.{Requirement}
use Rattle.types.specs.declared.rules.Requirements.{Requirements}
use Rattle.acceptance.specs.Image.{is_start, mark_m, mark_x, mark_kind, return_m, return_x, mark_of, is_formed}
use Rattle.acceptance.specs.Image.{length_fits, base_fits, mark_at, reset_fits}
use Rattle.instructions.specs.Decode.{decode}
use Rattle.instructions.specs.Successors.{kind_number, m_after, x_after, next_address, target_address}

-- the instruction at a place, at the widths marked there: 'length is read from there at the marked widths'
abbrev pub instruction_at : List ℕ → List ℕ → ℕ → Decoded
instruction_at image marks at = decode (drop at image) (mark_m (get_or marks at 0)) (mark_x (get_or marks at 0))

abbrev pub requirement : ℕ → ℕ → Requirement
requirement address mark = record { address = address; mark = mark }

-- 'The target has the caller's widths and kind 1 (JSR) or 2 (JSR long)'; its return widths are its own. `mark` is the
-- caller's, `there` the target's.
unfoldable pub mark_of_routine : Kind → ℕ → ℕ → ℕ
mark_of_routine kind mark there = mark_of (mark_m mark) (mark_x mark) (kind_number kind) (return_m there) (return_x there)

-- 'The address after has the target's return widths as its widths, and the caller's own kind and return widths.'
unfoldable pub mark_on_return : ℕ → ℕ → ℕ
mark_on_return mark there = mark_of (return_m there) (return_x there) (mark_kind mark) (return_m mark) (return_x mark)

-- 'Each successor .. has the same return kind and return widths, and has the widths in force after the instruction.'
unfoldable pub mark_after : WidthEffect → ℕ → ℕ → ℕ
mark_after effect operand mark =
    mark_of (m_after effect (mark_m mark) operand) (x_after effect (mark_x mark) operand)
    (mark_kind mark) (return_m mark) (return_x mark)

-- What an instruction owes, by its flow: at which addresses which marks must stand. `mark` is the instruction's own,
-- `after` that of a successor, `there` the mark at the target.
unfoldable pub owed_by : Flow → ℕ → ℕ → ℕ → ℕ → ℕ → Requirements
owed_by Flow.Next mark after next target there = Requirements.One (requirement next after)
owed_by Flow.Branch mark after next target there = Requirements.Two (requirement next after) (requirement target after)
owed_by Flow.Jump mark after next target there = Requirements.One (requirement target after)
owed_by (Flow.Call kind) mark after next target there =
    Requirements.Two (requirement target (mark_of_routine kind mark there)) (requirement next (mark_on_return mark there))
owed_by (Flow.Return kind) mark after next target there = Requirements.Nothing
owed_by Flow.Halt mark after next target there = Requirements.Nothing

-- what an instruction at an address, with a mark there, owes
unfoldable pub owed_at : List ℕ → ℕ → Instruction → ℕ → ℕ → Requirements
owed_at marks base i address mark =
    owed_by i.entry.flow mark (mark_after i.entry.effect i.operand mark) (next_address address i.length)
    (target_address i address) (mark_at marks base (target_address i address))

-- what an instruction at a place of the image, with the mark there, owes
abbrev pub owed_there : List ℕ → ℕ → ℕ → Instruction → Requirements
owed_there marks base at i = owed_at marks base i (base + at) (get_or marks at 0)

-- 'RTS stands only under kind 1, RTL only under kind 2, each at the marked return widths.'
unfoldable pub returns_by : Kind → ℕ → Bool
returns_by kind mark =
    eqb (mark_kind mark) (kind_number kind) && eqb (mark_m mark) (return_m mark) && eqb (mark_x mark) (return_x mark)

unfoldable pub return_fits : Flow → ℕ → Bool
return_fits Flow.Next mark = true
return_fits Flow.Branch mark = true
return_fits Flow.Jump mark = true
return_fits (Flow.Call kind) mark = true
return_fits (Flow.Return kind) mark = returns_by kind mark
return_fits Flow.Halt mark = true

-- a requirement is met by a marked start in the image with that mark
pub record Met (marks : List ℕ) (base : ℕ) (w : Requirement) : Type 0 where
  pub start_there : is_start (mark_at marks base w.address) ≡ true
  pub has_mark : mark_at marks base w.address ≡ w.mark

abbrev pub AllMet : List ℕ → ℕ → Requirements → Type 0
AllMet marks base Requirements.Nothing = Unit {0}
AllMet marks base (Requirements.One w) = Met marks base w
AllMet marks base (Requirements.Two v w) = Met marks base v × Met marks base w

-- The rules at one start: its code is carried and the instruction ends within the image; no start on its later bytes;
-- the rule of RTS and RTL; its successors.
pub record StartRules (image marks : List ℕ) (base at : ℕ) : Type 0 where
  pub instruction : Instruction
  pub whole : instruction_at image marks at ≡ Ok instruction
  pub no_overlap : (k : ℕ) → at < k → k < at + instruction.length → is_start (get_or marks k 0) ≡ false
  pub returns : return_fits instruction.entry.flow (get_or marks at 0) ≡ true
  pub successors : AllMet marks base (owed_there marks base at instruction)

-- The rules of acceptance, all of them.
pub record Accepts (image marks : List ℕ) (base reset : ℕ) : Type 0 where
  pub right_length : length_fits (length image) (length marks) ≡ true
  pub right_base : base_fits base (length image) ≡ true
  pub formed : (at : ℕ) → at < length marks → is_formed (get_or marks at 0) ≡ true
  pub at_reset : reset_fits marks base reset ≡ true
  pub at_starts : (at : ℕ) → at < length marks → is_start (get_or marks at 0) ≡ true → StartRules image marks base at
