-- The reader, the writer and the builder refuse by the first ground that holds: each of their tests is turned into
-- its ground, and the law of FirstGround.antt does the rest.
-- Assumes nothing.
use Rattle.std.specs.Prelude.{Ok, Err}
use mathlib.Core.Path.{◌≡◌, refl, sym, ◌∙◌}
use mathlib.Core.Bool.{Bool, true, false, true≢false, false≢true, not, ◌||◌, ◌&&◌}
use mathlib.Core.List.{List}
use Prim.Native.Nat.{ℕ, ◌+◌, ◌%◌, ◌<◌}
use native.Mathlib.Omega.{arith}
use lib.Dec.{leb}
use lib.ListN.{length}
use Rattle.types.specs.declared.lists.Header.{Header}
use Rattle.types.specs.Answers.{TestResult}
use Rattle.types.specs.Addresses.{bank_size}
use Rattle.acceptance.specs.Image.{base_fits, start_count}
use Rattle.lists.specs.MarkList.{list_base_fits, is_old, address_digits, header_shown, marks_of, is_list, read_tests}
use Rattle.lists.specs.MarkList.{read_as, read_list, new_digits, list_text, write_tests, write_list}
use Rattle.lists.specs.ListGrounds.{WrongListBase, read_grounds, ReadAnswers, write_grounds, WriteAnswers}
use Rattle.lists.specs.ListGrounds.{WrongRoutines, build_grounds, BuildAnswers}
use Rattle.lists.specs.Routines.{Admitted, has_marking, routine_marks, routines_inside, routine_limit, routines_fit}
use Rattle.lists.specs.Routines.{has_old_lines, is_routine_list, build_tests, built}
use Rattle.types.specs.Refusals.{answered, first_refusal}
use Rattle.acceptance.proofs.Grounds.{FailsOn, either, above, wrong_base, not_holding, wrong_length, wrong_reset}
use Rattle.acceptance.proofs.Grounds.{wrong_alone, wrong_mark, of_three}
use Rattle.acceptance.proofs.FirstGround.{answers_by}
use Rattle.lists.proofs.RoundTrips.{formed_marks}
use Rattle.lists.proofs.ListForm.{list_exactly}
use Rattle.lists.proofs.LeastMarks.{has_marking_lem, none_had}
use Rattle.lists.proofs.RoutineList.{inside_exactly, routines_exactly}
use Rattle.types.proofs.TestResults.{failed_passed, same_why}

-- ---- 1 and 2

-- of a list, which may be old
wrong_list_base : (old : Bool) (base image : ℕ)
    → FailsOn (list_base_fits old base image) (WrongListBase old base image)
unfolding list_base_fits
wrong_list_base old base image =
    either (base_fits base image) (not old || leb (base % bank_size + image) bank_size) (wrong_base base image) (by old)
  where
    by : (b : Bool) → FailsOn (not b || leb (base % bank_size + image) bank_size)
        ((b ≡ true) × (bank_size < base % bank_size + image))
    by true = let d = above (base % bank_size + image) bank_size in (λ e. (refl, d.0 e), λ w. d.1 w.1)
    by false = (λ e. absurd (true≢false e), λ w. absurd (false≢true w.0))

-- ---- the answers

-- the reader by that of 'Reader: 14, 1, 2, 3'
pub read_answers : ReadAnswers
unfolding read_list read_as
read_answers text marks =
    answers_by Err (Ok h)
    (record {
      one = λ why other e. cc;
      none = λ why e. let z : ◌≡◌ {A = ℕ} 0 1 = cc in absurd (omega arith);
    })
    (read_grounds text marks) (read_tests (is_old text) h text (length marks)) refl (
      not_holding (is_list count h text) (list_exactly text),
      λ _. (
        wrong_length h.length (length marks),
        λ _. (
          wrong_list_base (is_old text) h.base h.length,
          λ _. (wrong_reset (marks_of count h text) h.base h.reset (formed_marks count h text), λ _. tt),
        ),
      ),
    )
  where
    count : ℕ
    count = address_digits text

    h : Header
    h = header_shown text

-- the writer by that of 'Writer: 1, 2, 4, 3, 15'
pub write_answers : WriteAnswers
unfolding write_list
write_answers marks base reset page =
    let list = list_text new_digits marks base reset in
    answers_by Err (Ok (length list))
    (record {
      one = λ why other e. cc;
      none = λ why e. let z : ◌≡◌ {A = ℕ} 0 1 = cc in absurd (omega arith);
    })
    (write_grounds marks base reset page) (write_tests marks base reset page) refl (
      wrong_alone (length marks),
      λ _. (
        wrong_base base (length marks),
        λ _. (
          wrong_mark marks,
          λ formed. (wrong_reset marks base reset formed, λ _. (above (length list) (length page), λ _. tt)),
        ),
      ),
    )

-- ---- 17

has_none : (image : List ℕ) (base reset : ℕ) (routines : List ℕ) → FailsOn (has_marking image base reset routines)
    ((marks : List ℕ) → Admitted image base reset routines marks → ⊥)
has_none image base reset routines = (
  λ e marks v. true≢false (sym (has_marking_lem image base reset routines marks v) ∙ e),
  none_had image base reset routines,
)

wrong_routines : (image : List ℕ) (base reset : ℕ) (text : List ℕ)
    → FailsOn (routines_fit base (length image) text
    && has_marking image base reset (routine_marks base (length image) text)) (WrongRoutines image base reset text)
unfolding routines_fit
wrong_routines image base reset text =
    let n = length image in
    let routines = routine_marks base n text in
    of_three (routines_inside base n text) (leb (start_count routines) routine_limit)
    (has_marking image base reset routines)
    (not_holding (routines_inside base n text) (inside_exactly base n text))
    (above (start_count routines) routine_limit)
    (has_none image base reset routines)

same_answer : (so : TestResult) → answered so Err (Ok tt) ≡ so
same_answer (Ok _) = refl
same_answer (Err why) = refl

-- 14, 1, 2, 17
pub build_answers : BuildAnswers
unfolding built
build_answers image base reset text marks =
    let tests = build_tests image base reset text (length marks) in
    rw (← same_answer (first_refusal tests))
    (answers_by Err (Ok tt)
    (record { one = λ why other e. same_why e; none = λ why e. failed_passed e })
    (build_grounds image base reset text marks) tests refl (
      not_holding (is_routine_list text) (routines_exactly text),
      λ _. (
        wrong_length (length image) (length marks),
        λ _. (
          wrong_list_base (has_old_lines text) base (length image),
          λ _. (wrong_routines image base reset text, λ _. tt),
        ),
      ),
    ))
