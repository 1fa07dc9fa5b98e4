-- 01, 'Numbers': which number the check gives, and where. 'The check tests 1, 2, 4, 3, then each start in turn from the
-- lowest, for 5, 6, 7, 10, 8, 9. It also returns the offset of that start (of the lowest bad mark for 4; 0 for 1, 2,
-- 3).'
-- Assumes nothing.
use Rattle.types.specs.declared.code.Undecoded.{Undecoded}
use Rattle.std.specs.Prelude.{◌≡◌, ℕ, ◌+◌, ◌-◌, Bool, true, not, ◌&&◌, List, [], ◌∷◌, ◌++◌, eqb, length, get_or, Ok}
use Rattle.std.specs.Prelude.{Err}
use Rattle.prelude.specs.First.{first_from}
use Rattle.types.specs.declared.code.Instruction.{Instruction}
use Rattle.types.specs.Answers.{Decoded, refused_at, TestResult, Verdict}
use Rattle.types.specs.declared.refusals.Refusal.{Refusal}
use Rattle.types.specs.declared.rules.Requirement.{Requirement}
use Rattle.types.specs.declared.rules.Requirements.{Requirements}
use Rattle.prelude.specs.Choice.{pick}
use Rattle.acceptance.specs.Image.{is_start, is_formed, length_fits, base_fits, mark_at, reset_fits}
use Rattle.types.specs.Refusals.{refusal_number, Tests, first_refusal, is_failed, answered}
use Rattle.acceptance.specs.Rules.{owed_there, return_fits, instruction_at}

-- 7: 'start inside an instruction'
abbrev pub start_at : List ℕ → ℕ → Bool
start_at marks at = is_start (get_or marks at 0)

unfoldable pub is_clear : List ℕ → ℕ → ℕ → Bool
is_clear marks at n = eqb (first_from (start_at marks) (at + 1) (n - 1)) (at + 1 + (n - 1))

-- 8: 'a successor, call target or address after a call is no marked start'
unfoldable pub is_start_at : List ℕ → ℕ → Requirement → Bool
is_start_at marks base w = is_start (mark_at marks base w.address)

unfoldable pub all_starts : List ℕ → ℕ → Requirements → Bool
all_starts marks base Requirements.Nothing = true
all_starts marks base (Requirements.One w) = is_start_at marks base w
all_starts marks base (Requirements.Two v w) = is_start_at marks base v && is_start_at marks base w

-- 9: 'one of those breaks its rule'
unfoldable pub has_mark_at : List ℕ → ℕ → Requirement → Bool
has_mark_at marks base w = eqb (mark_at marks base w.address) w.mark

unfoldable pub all_marks : List ℕ → ℕ → Requirements → Bool
all_marks marks base Requirements.Nothing = true
all_marks marks base (Requirements.One w) = has_mark_at marks base w
all_marks marks base (Requirements.Two v w) = has_mark_at marks base v && has_mark_at marks base w

-- the rules of a whole instruction: '7, 10, 8, 9'. 8 on every requirement comes before 9 on any.
abbrev pub whole_tests : List ℕ → ℕ → ℕ → Instruction → Tests
whole_tests marks base at i =
    (is_clear marks at i.length, Refusal.Overlap)
    ∷ (return_fits i.entry.flow (get_or marks at 0), Refusal.Return)
    ∷ (all_starts marks base (owed_there marks base at i), Refusal.Flow)
    ∷ (all_marks marks base (owed_there marks base at i), Refusal.Widths)
    ∷ []

-- 5: 'code at a start is not carried'; 6: 'instruction, or the code behind a prefix, runs past the image'
unfoldable pub decoded_result : List ℕ → ℕ → ℕ → Decoded → TestResult
decoded_result marks base at (Err Undecoded.NotCarried) = Err Refusal.Code
decoded_result marks base at (Err Undecoded.CutOff) = Err Refusal.CutOff
decoded_result marks base at (Ok i) = first_refusal (whole_tests marks base at i)

-- the first rule that is broken at a place; where no instruction starts none is
unfoldable pub start_result : List ℕ → List ℕ → ℕ → ℕ → TestResult
start_result image marks base at =
    pick (start_at marks at) (decoded_result marks base at (instruction_at image marks at)) (Ok tt)

-- a place that breaks a rule, and the lowest such, or the place past the marks
abbrev pub broken_at : List ℕ → List ℕ → ℕ → ℕ → Bool
broken_at image marks base at = is_failed (start_result image marks base at)

unfoldable pub bad_start : List ℕ → List ℕ → ℕ → ℕ
bad_start image marks base = first_from (broken_at image marks base) 0 (length marks)

-- the starts in turn. No start stands past the marks.
unfoldable pub starts_verdict : List ℕ → List ℕ → ℕ → Verdict
starts_verdict image marks base =
    answered (start_result image marks base (bad_start image marks base))
    (λ why. refused_at why (bad_start image marks base))
    (Ok tt)

-- 4: 'a mark not of the form above', and the lowest such
abbrev pub unformed_at : List ℕ → ℕ → Bool
unformed_at marks at = not (is_formed (get_or marks at 0))

unfoldable pub bad_mark : List ℕ → ℕ
bad_mark marks = first_from (unformed_at marks) 0 (length marks)

abbrev pub all_formed : List ℕ → Bool
all_formed marks = eqb (bad_mark marks) (length marks)

-- '1, 2': what every call asks of an image of so many bytes at a base, with so many marks
abbrev pub image_tests : ℕ → ℕ → ℕ → Tests
image_tests image marks base = (length_fits image marks, Refusal.Length) ∷ (base_fits base image, Refusal.Base) ∷ []

-- '1, 2, 4, 3': what the check and the writer ask
abbrev pub marks_tests : ℕ → List ℕ → ℕ → ℕ → Tests
marks_tests image marks base reset =
    image_tests image (length marks) base
    ++ ((all_formed marks, Refusal.Mark) ∷ (reset_fits marks base reset, Refusal.Reset) ∷ [])

-- the offset '(of the lowest bad mark for 4; 0 for 1, 2, 3)'
abbrev pub offset_of : List ℕ → Refusal → ℕ
offset_of marks why = pick (eqb (refusal_number why) 4) (bad_mark marks) 0

-- the check: '1, 2, 4, 3, then each start in turn'
unfoldable pub verdict : List ℕ → List ℕ → ℕ → ℕ → Verdict
verdict image marks base reset =
    answered (first_refusal (marks_tests (length image) marks base reset))
    (λ why. refused_at why (offset_of marks why))
    (starts_verdict image marks base)

-- the check accepts an image, at some reset address
abbrev pub IsAccepted : List ℕ → List ℕ → ℕ → Type 0
IsAccepted image marks base = (reset : ℕ) × (verdict image marks base reset ≡ Ok tt)
