-- 01, 'Numbers': why a call is refused, the number of each refusal, and that of tests in an order the first that fails
-- decides. Which tests a call makes, and in which order, stands with that call.
-- Assumes nothing.
use Rattle.std.specs.Prelude.{ℕ, Bool, true, false, List, [], ◌∷◌, Ok, Err}
use Rattle.types.specs.declared.code.Undecoded.{Undecoded}
use Rattle.types.specs.declared.refusals.Refusal.{Refusal}
use Rattle.types.specs.Answers.{TestResult}

-- the table's numbers, by its words; 02, R-4: 'Answers: 16', R-6: 'Answers: 17'
abbrev pub refusal_number : Refusal → ℕ
refusal_number Refusal.Length = 1
refusal_number Refusal.Base = 2
refusal_number Refusal.Reset = 3
refusal_number Refusal.Mark = 4
refusal_number Refusal.Code = 5
refusal_number Refusal.CutOff = 6
refusal_number Refusal.Overlap = 7
refusal_number Refusal.Flow = 8
refusal_number Refusal.Widths = 9
refusal_number Refusal.Return = 10
refusal_number Refusal.Ram = 11
refusal_number Refusal.State = 12
refusal_number Refusal.Steps = 13
refusal_number Refusal.List = 14
refusal_number Refusal.Page = 15
refusal_number Refusal.Addresses = 16
refusal_number Refusal.Routines = 17

-- 5: 'code at a start is not carried'; 6: 'instruction, or the code behind a prefix, runs past the image'
abbrev pub undecoded_refusal : Undecoded → Refusal
undecoded_refusal Undecoded.NotCarried = Refusal.Code
undecoded_refusal Undecoded.CutOff = Refusal.CutOff

-- tests in their order, each with what refuses where it fails
abbrev pub Tests : Type 0
Tests = List (Bool × Refusal)

-- 'the first such number'
unfoldable pub first_refusal : Tests → TestResult
first_refusal [] = Ok tt
first_refusal ((true, why) ∷ rest) = first_refusal rest
first_refusal ((false, why) ∷ rest) = Err why

-- whether a test failed
abbrev pub is_failed : TestResult → Bool
is_failed (Ok _) = false
is_failed (Err why) = true

-- an answer by its tests: refused, or what is answered where all pass
abbrev pub answered : {A : Type 0} → TestResult → (Refusal → A) → A → A
answered (Ok _) refused done = done
answered (Err why) refused done = refused why
