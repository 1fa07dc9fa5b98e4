-- Where the check takes a shorter way than the definition, both give the same: one comparison for the mark at an
-- address, kept widths without the operand, 9 before 8, and 10 only where nothing is owed.
-- Assumes nothing.
use Rattle.std.proofs.Common.{◌≡◌, ℕ, ◌+◌, ◌*◌, ◌/◌, ◌%◌, ◌<◌, Bool, true, false, eqb, List, [], ◌∷◌}
use Rattle.std.proofs.Common.{◌++◌, refl, arith, eqb-true}
use Rattle.codepages.specs.Packing.{unpacked}
use Rattle.codepages.proofs.Unpacked.{kept_effect}
use Rattle.types.specs.declared.code.Flow.{Flow}
use Rattle.types.specs.declared.code.Instruction.{Instruction}
use Rattle.types.specs.declared.refusals.Refusal.{Refusal}
use Rattle.types.specs.Answers.{TestResult}
use Rattle.types.specs.declared.rules.Requirement.{Requirement}
use Rattle.types.specs.declared.rules.Requirements.{Requirements}
use Rattle.acceptance.specs.Image.{is_start, mark_at}
use Rattle.types.specs.Refusals.{first_refusal}
use Rattle.acceptance.specs.Rules.{mark_after, owed_by, owed_at, return_fits}
use Rattle.instructions.specs.Successors.{m_after, x_after}
use Rattle.acceptance.specs.Verdict.{is_start_at, all_starts, has_mark_at, all_marks}
use Rattle.prelude.proofs.Choice.{both_true}
use Rattle.acceptance.proofs.Widths.{same_fields, routine_start, on_return_start, after_start}
use Rattle.checker.specs.Owes.{all_owed, return_tests, owed_tests, MarksOfStarts}

-- ---- kept widths

pub kept_mark : (number operand mark : ℕ) → mark < 256 → eqb (number / 2_097_152 % 8) 0 ≡ true
    → mark / 2 % 64 * 2 + 1 ≡ mark_after (unpacked number).effect operand mark
unfolding mark_after m_after x_after
kept_mark number operand mark h e = rw (kept_effect number e) (same_fields mark h)

-- ---- a test of all that is owed

module _ (marks : List ℕ) (base : ℕ) where
  pub all_starts_by : (owed : Requirements) → all_owed (is_start_at marks base) owed ≡ all_starts marks base owed
  unfolding all_starts
  all_starts_by Requirements.Nothing = refl
  all_starts_by (Requirements.One w) = refl
  all_starts_by (Requirements.Two v w) = refl

  pub all_marks_by : (owed : Requirements) → all_owed (has_mark_at marks base) owed ≡ all_marks marks base owed
  unfolding all_marks
  all_marks_by Requirements.Nothing = refl
  all_marks_by (Requirements.One w) = refl
  all_marks_by (Requirements.Two v w) = refl

-- ---- 9 before 8

module _ (marks : List ℕ) (base : ℕ) where
  one_start : (w : Requirement) → is_start w.mark ≡ true → has_mark_at marks base w ≡ true
      → is_start_at marks base w ≡ true
  unfolding has_mark_at is_start_at
  one_start w odd h = rw (eqb-true (mark_at marks base w.address) w.mark h) odd

  two_starts : (v w : Requirement) → is_start v.mark ≡ true → is_start w.mark ≡ true
      → MarksOfStarts marks base (Requirements.Two v w)
  unfolding all_marks all_starts
  two_starts v w odd odd' h =
      let both = both_true (has_mark_at marks base v) (has_mark_at marks base w) h in
      rw (one_start v odd both.0, one_start w odd' both.1) refl

  owes_starts : (flow : Flow) (mark after next to there : ℕ) → is_start after ≡ true
      → MarksOfStarts marks base (owed_by flow mark after next to there)
  unfolding owed_by all_marks all_starts
  owes_starts Flow.Next mark after next to there odd h = one_start _ odd h
  owes_starts Flow.Branch mark after next to there odd h = two_starts _ _ odd odd h
  owes_starts Flow.Jump mark after next to there odd h = one_start _ odd h
  owes_starts (Flow.Call kind) mark after next to there odd h =
      two_starts _ _ (routine_start kind mark there) (on_return_start mark there) h
  owes_starts (Flow.Return kind) mark after next to there odd h = refl
  owes_starts Flow.Halt mark after next to there odd h = refl

  pub marks_of_starts : (i : Instruction) (address mark : ℕ)
      → MarksOfStarts marks base (owed_at marks base i address mark)
  unfolding owed_at
  marks_of_starts i address mark =
      owes_starts i.entry.flow mark _ _ _ _ (after_start i.entry.effect i.operand mark)

-- ---- 10 only where nothing is owed

-- whether something is owed
abbrev pub owes : Requirements → Bool
owes Requirements.Nothing = false
owes (Requirements.One w) = true
owes (Requirements.Two v w) = true

by_flow : (flow : Flow) (mark after next to there : ℕ) → owes (owed_by flow mark after next to there) ≡ true
    → return_fits flow mark ≡ true
unfolding owed_by return_fits
by_flow Flow.Next mark after next to there e = refl
by_flow Flow.Branch mark after next to there e = refl
by_flow Flow.Jump mark after next to there e = refl
by_flow (Flow.Call kind) mark after next to there e = refl
by_flow (Flow.Return kind) mark after next to there e = let z : ◌≡◌ {A = ℕ} 0 1 = cc in absurd (omega arith)
by_flow Flow.Halt mark after next to there e = refl

module _ (marks : List ℕ) (base : ℕ) (i : Instruction) (address mark : ℕ) where
  abbrev flow : Flow
  flow = i.entry.flow

  abbrev owed : Requirements
  owed = owed_at marks base i address mark

  no_return : owes owed ≡ true → return_fits flow mark ≡ true
  unfolding owed_at
  no_return e = by_flow flow mark _ _ _ _ e

  pub something_owed : {so : TestResult} → owes owed ≡ true → so ≡ first_refusal (owed_tests marks base owed)
      → so ≡ first_refusal (return_tests flow mark ++ owed_tests marks base owed)
  unfolding first_refusal
  something_owed e s = rw (no_return e) s

  pub nothing_owed : {so : TestResult} → owed ≡ Requirements.Nothing → so ≡ first_refusal (return_tests flow mark)
      → so ≡ first_refusal (return_tests flow mark ++ owed_tests marks base owed)
  unfolding first_refusal all_starts all_marks
  nothing_owed {so} e s = rw e (by (return_fits flow mark) s)
    where
      by : (b : Bool) → so ≡ first_refusal ((b, Refusal.Return) ∷ [])
          → so ≡ first_refusal ((b, Refusal.Return) ∷ (true, Refusal.Flow) ∷ (true, Refusal.Widths) ∷ [])
      by true s = s
      by false s = s
