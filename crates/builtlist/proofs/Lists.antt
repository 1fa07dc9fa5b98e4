-- Marks that the check accepts are written, none of their lists being longer than the longest; which marks are lent
-- makes no difference to those delivered.
-- Assumes nothing.
use Rattle.std.specs.Prelude.{Ok, Err}
use Rattle.std.specs.Result.{result_unwrap_or}
use mathlib.Core.Path.{◌≡◌, ap, sym, ◌∙◌}
use mathlib.Core.List.{List, ◌++◌}
use Prim.Native.Nat.{ℕ, ◌≤◌}
use native.Mathlib.Omega.{arith}
use borrow.Author.Tests.{le-leb}
use lib.ListN.{length, drop}
use Rattle.types.specs.Answers.{ListWritten, refused_at}
use Rattle.types.specs.declared.refusals.Refusal.{Refusal}
use Rattle.types.specs.Refusals.{first_refusal}
use Rattle.acceptance.specs.Verdict.{marks_tests, offset_of, verdict}
use Rattle.lists.specs.MarkList.{new_digits, list_text, write_tests, write_list, page_by, page_written}
use Rattle.lists.specs.Routines.{built, marks_built}
use Rattle.types.proofs.TestResults.{AllHold, shown, none_fails, all_passed}
use Rattle.acceptance.proofs.Image.{right_length}
use Rattle.lists.proofs.ListAnswers.{written_small}
use Rattle.lists.proofs.LeastMarks.{delivers_least}
use Rattle.lists.proofs.Routines.{least_only}
use Rattle.answer.specs.AnswerLine.{refused_alone, line_for}
use Rattle.builtlist.specs.BuiltList.{list_by, list_of, Accepted, longest_list}

-- ---- marks that are written

accepted_tests : (image marks : List ℕ) (base reset : ℕ) → verdict image marks base reset ≡ Ok tt
    → AllHold (marks_tests (length marks) marks base reset)
unfolding verdict
accepted_tests image marks base reset e =
    let tests = marks_tests (length image) marks base reset in
    let all = all_passed (first_refusal tests) (λ why. refused_at why (offset_of marks why))
    (λ why r. let z : ◌≡◌ {A = ℕ} 0 1 = cc in absurd (omega arith)) e in
    let held = shown tests all.0 in
    let same = (right_length (length image) (length marks) held.0).same in
    rw (← same) at held

module _ (marks : List ℕ) (base reset : ℕ) (accepted : Accepted marks base reset) where
  abbrev text : List ℕ
  text = list_text new_digits marks base reset

  pub written_whole : (page : List ℕ) → length text ≤ length page
      → write_list marks base reset page ≡ Ok (length text)
  unfolding write_list
  written_whole page room =
      let held = accepted_tests accepted.0 marks base reset accepted.1 in
      rw (none_fails (write_tests marks base reset page)
      (held.0, (held.1.0, (held.1.1.0, (held.1.1.1.0, (le-leb (length text) (length page) room, tt))))))

  pub list_most : length text ≤ longest_list
  list_most = written_small marks base reset (length text) text (written_whole text (omega arith))

  -- what the writer answers where there is room, and the page then
  module _ (page : List ℕ) (room : longest_list ≤ length page) where
    pub size_written : (told : ListWritten) (n : ℕ) → told ≡ write_list marks base reset page
        → n ≡ result_unwrap_or told 0 → n ≡ length text
    size_written told n e size =
        size ∙ ap (λ a. result_unwrap_or a 0) (e ∙ written_whole page (omega (arith, list_most, room)))

    pub page_written_lem : page_written marks base reset page ≡ text ++ drop (length text) page
    unfolding page_written page_by
    page_written_lem = rw (written_whole page (omega (arith, list_most, room)))

-- ---- marks that are lent

module _ (image : List ℕ) (base reset : ℕ) (text marks : List ℕ) (alike : length marks ≡ length image) where
  pub same_answer : built image base reset text marks ≡ built image base reset text image
  unfolding built
  same_answer = rw alike

  pub same_marks : built image base reset text marks ≡ Ok tt
      → marks_built image base reset text marks ≡ marks_built image base reset text image
  same_marks e =
      least_only image base reset _ _ _ (delivers_least image base reset text marks e)
      (delivers_least image base reset text image (sym same_answer ∙ e))

  pub refused_list : (why : Refusal) → built image base reset text marks ≡ Err why
      → line_for (Err (refused_alone why)) ≡ list_of image base reset text
  unfolding list_of list_by
  refused_list why e = rw (← same_answer, e)

  module _ (e : built image base reset text marks ≡ Ok tt) where
    pub delivered_accepted : verdict image (marks_built image base reset text marks) base reset ≡ Ok tt
    delivered_accepted = (delivers_least image base reset text marks e).admitted.passes

    pub delivered_list : list_text new_digits (marks_built image base reset text marks) base reset
        ≡ list_of image base reset text
    unfolding list_of list_by
    delivered_list = rw (← same_answer, e) (ap (λ m. list_text new_digits m base reset) (same_marks e))
