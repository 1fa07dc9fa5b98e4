-- 01, 'Numbers', and 02, R-6: on which grounds the reader and the writer of mark lists refuse, and the builder of
-- marks. Nothing here says how a ground is tested.
-- Assumes nothing.
use Rattle.std.specs.Prelude.{◌≡◌, ◌⊎◌, Bool, true, List, [], ◌∷◌, ℕ, ◌+◌, ◌%◌, ◌<◌, length, Ok, Err}
use Rattle.types.specs.declared.lists.Header.{Header}
use Rattle.types.specs.declared.refusals.Refusal.{Refusal}
use Rattle.acceptance.specs.Grounds.{WrongBase, Grounds, WrongLength, WrongReset, AnswersBy, WrongSize, WrongMark}
use Rattle.types.specs.Addresses.{bank_size}
use Rattle.lists.specs.ListForm.{IsMarkList, StartLines}
use Rattle.lists.specs.MarkList.{is_old, address_digits, header_shown, marks_of, read_list, new_digits, list_text}
use Rattle.lists.specs.MarkList.{write_list}
use Rattle.lists.specs.Routines.{IsRoutineList, routine_digits, first_routine, routine_marks, routine_limit, Admitted}
use Rattle.lists.specs.Routines.{has_old_lines, built}
use Rattle.acceptance.specs.Image.{start_count}

-- ---- the grounds

-- 2 of a list: R-7, 'A list wholly in four digits is still read where the image fits one bank, else gets 2'
abbrev pub WrongListBase : Bool → ℕ → ℕ → Type 0
WrongListBase old base image = WrongBase base image ⊎ ((old ≡ true) × (bank_size < base % bank_size + image))

-- 14: 'text is not a mark list'
abbrev pub WrongList : List ℕ → Type 0
WrongList text = IsMarkList text → ⊥

-- 15: 'output buffer shorter than the list'
abbrev pub WrongPage : ℕ → ℕ → Type 0
WrongPage page list = page < list

-- ---- mark lists

-- 'Reader: 14, 1, 2, 3', of the first line and the marks that a list shows
abbrev pub read_grounds : List ℕ → List ℕ → Grounds
read_grounds text marks =
    (WrongList text, Refusal.List)
    ∷ (WrongLength h.length (length marks), Refusal.Length)
    ∷ (WrongListBase (is_old text) h.base h.length, Refusal.Base)
    ∷ (WrongReset (marks_of (address_digits text) h text) h.base h.reset, Refusal.Reset)
    ∷ []
  where
    h : Header
    h = header_shown text

abbrev pub ReadAnswers : Type 0
ReadAnswers =
    (text marks : List ℕ)
    → AnswersBy (read_grounds text marks) Err (Ok (header_shown text)) (read_list text marks)

-- 'Writer: 1, 2, 4, 3, 15'. The marks are as many as the image's bytes.
abbrev pub write_grounds : List ℕ → ℕ → ℕ → List ℕ → Grounds
write_grounds marks base reset page =
    (WrongSize (length marks), Refusal.Length)
    ∷ (WrongBase base (length marks), Refusal.Base)
    ∷ (WrongMark marks, Refusal.Mark)
    ∷ (WrongReset marks base reset, Refusal.Reset)
    ∷ (WrongPage (length page) (length (list_text new_digits marks base reset)), Refusal.Page)
    ∷ []

abbrev pub WriteAnswers : Type 0
WriteAnswers =
    (marks : List ℕ) (base reset : ℕ) (page : List ℕ)
    → AnswersBy (write_grounds marks base reset page) Err
    (Ok (length (list_text new_digits marks base reset))) (write_list marks base reset page)

-- ---- marks built from a routine list

-- 14: 'Malformed text'
abbrev pub WrongRoutineList : List ℕ → Type 0
WrongRoutineList text = IsRoutineList text → ⊥

-- 17: 'an address outside the image', 'too many routines', 'no such marking'
abbrev pub WrongRoutines : List ℕ → ℕ → ℕ → List ℕ → Type 0
WrongRoutines image base reset text =
    (StartLines (routine_digits text) (first_routine base text + length image) (first_routine base text) text → ⊥)
    ⊎ (routine_limit < start_count (routine_marks base (length image) text))
    ⊎ ((marks : List ℕ) → Admitted image base reset (routine_marks base (length image) text) marks → ⊥)

-- '17 .. after 14, 1 and 2'
abbrev pub build_grounds : List ℕ → ℕ → ℕ → List ℕ → List ℕ → Grounds
build_grounds image base reset text marks =
    (WrongRoutineList text, Refusal.List)
    ∷ (WrongLength (length image) (length marks), Refusal.Length)
    ∷ (WrongListBase (has_old_lines text) base (length image), Refusal.Base)
    ∷ (WrongRoutines image base reset text, Refusal.Routines)
    ∷ []

abbrev pub BuildAnswers : Type 0
BuildAnswers =
    (image : List ℕ) (base reset : ℕ) (text marks : List ℕ)
    → AnswersBy (build_grounds image base reset text marks) Err (Ok tt)
    (built image base reset text marks)
