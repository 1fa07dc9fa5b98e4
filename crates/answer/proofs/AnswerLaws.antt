-- The cases of an answer: a list that is refused, a list that is read, a file over its limit. The marks of an image
-- that is accepted are few, and their starts no more.
-- Assumes nothing.
use Rattle.std.specs.Prelude.{Ok, Err}
use mathlib.Core.Path.{◌≡◌}
use mathlib.Core.Bool.{true, false}
use mathlib.Core.List.{List}
use Prim.Native.Nat.{ℕ, ◌≤◌, ◌<◌}
use native.Mathlib.Omega.{arith}
use borrow.Author.Tests.{le-leb, leb-true}
use lib.Dec.{leb}
use lib.ListN.{length}
use Rattle.prelude.proofs.Choice.{both_true}
use Rattle.types.specs.declared.lists.Header.{Header}
use Rattle.types.specs.declared.refusals.Refusal.{Refusal}
use Rattle.types.specs.Addresses.{image_limit}
use Rattle.acceptance.specs.Image.{start_count}
use Rattle.acceptance.specs.Verdict.{verdict}
use Rattle.lists.specs.MarkList.{read_list, marks_read, marks_by}
use Rattle.acceptance.proofs.Image.{right_length, starts_most}
use Rattle.acceptance.proofs.Verdict.{accepted_rules}
use Rattle.answer.specs.declared.answers.NotAccepted.{NotAccepted}
use Rattle.answer.specs.AnswerLine.{list_limit, refused_alone, are_within_limits}
use Rattle.answer.specs.AnswerLine.{verdict_answer, answer_of, list_answer, answer_for}

pub accepted_few : (image marks : List ℕ) (base reset : ℕ) → verdict image marks base reset ≡ Ok tt
    → start_count marks < 4_294_967_296
accepted_few image marks base reset e =
    let fits = right_length (length image) (length marks) (accepted_rules image marks base reset e).right_length in
    omega (arith, starts_most marks, fits.few, fits.same)

module _ (image text marks : List ℕ) (alike : length marks ≡ length image) where
  pub list_refused : (why : Refusal) → read_list text marks ≡ Err why
      → Err (refused_alone why) ≡ list_answer image text
  unfolding list_answer answer_of read_list
  list_refused why e = rw (← alike, e)

  pub list_taken : (h : Header) → read_list text marks ≡ Ok h
      → verdict_answer image (marks_read text marks) h.base h.reset ≡ list_answer image text
  unfolding list_answer answer_of read_list marks_read marks_by
  list_taken h e = rw (← alike, e)

module _ (image text : List ℕ) where
  pub over_limits : are_within_limits image text ≡ false → Err NotAccepted.Unread ≡ answer_for image text
  unfolding answer_for
  over_limits over = rw over

  pub within_limits : are_within_limits image text ≡ true → list_answer image text ≡ answer_for image text
  unfolding answer_for
  within_limits within = rw within

  pub limits_kept : length text ≤ list_limit → length image ≤ image_limit → are_within_limits image text ≡ true
  unfolding are_within_limits
  limits_kept short few = rw (le-leb (length text) list_limit short, le-leb (length image) image_limit few)

  pub within_short : are_within_limits image text ≡ true → length text ≤ list_limit
  unfolding are_within_limits
  within_short within =
      leb-true (length text) list_limit (both_true (leb (length text) list_limit) _ within).0

  -- an image within its limit has few bytes
  pub within_few : are_within_limits image text ≡ true → length image ≤ image_limit
  unfolding are_within_limits
  within_few within =
      leb-true (length image) image_limit (both_true (leb (length text) list_limit) _ within).1
