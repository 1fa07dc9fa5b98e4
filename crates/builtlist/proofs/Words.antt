-- Which files and words are taken: each test in turn.
-- Assumes nothing.
use Rattle.std.specs.Prelude.{Err}
use mathlib.Core.Path.{◌≡◌}
use mathlib.Core.Bool.{Bool, true, false, not, ◌&&◌}
use mathlib.Core.List.{List}
use Prim.Native.Nat.{ℕ, ◌≤◌}
use borrow.Author.Tests.{eq-eqb, ne_eqb, not-true, not-false}
use lib.ListN.{length}
use Rattle.prelude.proofs.Choice.{both_true}
use Rattle.text.specs.Text.{starts_with}
use Rattle.text.specs.Digits.{digits}
use Rattle.types.specs.Addresses.{image_limit}
use Rattle.lists.specs.MarkList.{new_digits}
use Rattle.answer.specs.declared.answers.NotAccepted.{NotAccepted}
use Rattle.answer.specs.AnswerLine.{are_within_limits, line_for}
use Rattle.answer.proofs.AnswerLaws.{within_few}
use Rattle.builtlist.specs.BuiltList.{address_shown, is_address, is_taken, list_of, built_list}

module _ (word : List ℕ) where
  pub other_length : (length word ≡ new_digits → ⊥) → false ≡ is_address word
  unfolding is_address
  other_length differs = rw (ne_eqb (length word) new_digits differs)

  pub by_digits : (shows : Bool) → length word ≡ new_digits
      → shows ≡ starts_with (digits 16 new_digits (address_shown word)) word → shows ≡ is_address word
  unfolding is_address
  by_digits shows same e = rw (eq-eqb (length word) new_digits same) e

module _ (image base reset text : List ℕ) where
  -- what is written by whether files and words are taken
  module _ (given : Bool) (same : given ≡ is_taken image base reset text) where
    pub not_taken : not given ≡ true → line_for (Err NotAccepted.Unread) ≡ built_list image base reset text
    unfolding built_list
    not_taken failed = rw (← same, not-true given failed)

    pub taken_list : not given ≡ false
        → list_of image (address_shown base) (address_shown reset) text ≡ built_list image base reset text
    unfolding built_list
    taken_list held = rw (← same, not-false given held)

  -- an image that is taken has few bytes
  pub taken_few : is_taken image base reset text ≡ true → length image ≤ image_limit
  unfolding is_taken
  taken_few taken =
      let all = both_true (are_within_limits image text && is_address base) _ taken in
      within_few image text (both_true (are_within_limits image text) _ all.0).0
