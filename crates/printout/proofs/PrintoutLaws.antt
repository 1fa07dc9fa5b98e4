-- Where rows are printed the image is accepted, and they are the printout. Where none are, it is not: an accepted
-- image's rows, one for each of as many starts as a list file has room for, have room, so the page is not refused for
-- its length.
-- Assumes nothing.
use Rattle.std.specs.Prelude.{Ok, Err}
use mathlib.Core.Path.{◌≡◌, refl, sym, ap, ◌∙◌}
use mathlib.Core.Bool.{true, false}
use mathlib.Core.List.{List}
use Prim.Native.Nat.{ℕ, ◌+◌, ◌≤◌}
use native.Mathlib.Omega.{arith}
use lib.ListN.{length}
use Rattle.types.specs.declared.lists.Header.{Header}
use Rattle.types.specs.Answers.{ListRead, refused_at, Printed, Verdict}
use Rattle.types.specs.declared.refusals.Refusal.{Refusal}
use Rattle.acceptance.specs.Verdict.{verdict}
use Rattle.lists.specs.MarkList.{is_old, address_digits, header_shown, marks_of}
use Rattle.lists.specs.MarkList.{read_as, read_list, marks_read, marks_by}
use Rattle.reports.specs.PrintedPage.{printed, page_after, page_printed}
use Rattle.lists.proofs.ListAnswers.{read_passes}
use Rattle.lists.proofs.RoundTrips.{starts_in_text}
use Rattle.reports.proofs.PrintedAnswers.{printed_whole, rows_printed, page_rows}
use Rattle.answer.specs.AnswerLine.{list_limit, are_within_limits, answer_by, verdict_answer, answer_of}
use Rattle.answer.specs.AnswerLine.{list_answer, answer_line}
use Rattle.answer.proofs.AnswerLaws.{over_limits, within_limits}
use Rattle.printout.specs.Printout.{files_page, printout_by, printout, page_limit, printed_as, files_printed}

-- which tells answers apart
abbrev rows : Printed → ℕ
rows (Err r) = 0
rows (Ok n) = n + 1

-- the marks that are read are those of the list, and so is the page
module _ (image text marks : List ℕ) (alike : length marks ≡ length image) (page : List ℕ) where
  pub list_refused : (why : Refusal) → read_list text marks ≡ Err why
      → refused_at why 0 ≡ files_printed image text page
  unfolding files_printed printed_as read_list
  list_refused why e = rw (← alike, e)

  pub list_printed : (h : Header) → read_list text marks ≡ Ok h
      → printed image (marks_read text marks) h.base h.reset page ≡ files_printed image text page
  unfolding files_printed printed_as read_list marks_read marks_by
  list_printed h e = rw (← alike, e)

  pub page_printed_lem : (h : Header) → read_list text marks ≡ Ok h
      → page_printed image (marks_read text marks) h.base h.reset page
      ≡ page_after (printed image (marks_read text marks) h.base h.reset page) (files_page image text) page
  unfolding page_printed files_page read_list marks_read marks_by
  page_printed_lem h e =
      let same = (read_passes (is_old text) (header_shown text) h text (length marks) e).0 in
      rw (e, same)

module _ (image text : List ℕ) where
  abbrev given : ListRead
  given = read_as (is_old text) (header_shown text) text (length image)

  -- rows that were printed are those of an accepted image
  pub rows_taken : (n : ℕ) (page : List ℕ) → files_printed image text page ≡ Ok n
      → (printout_by (list_answer image text) image text ≡ files_page image text) × (n ≡ length (files_page image text))
  unfolding files_printed printed_as list_answer answer_of verdict_answer answer_by printout_by files_page
  rows_taken n page e = by given refl e
    where
      by : (r : ListRead) → given ≡ r → printed_as r image text page ≡ Ok n
          → (printout_by (answer_of r image text) image text ≡ files_page image text)
          × (n ≡ length (files_page image text))
      by (Err why) read told = absurd (omega (arith, ap rows told))
      by (Ok h) read told =
          let shown = rows_printed image (marks_of (address_digits text) h text) h.base h.reset page n told in
          let same = (read_passes (is_old text) (header_shown text) h text (length image) read).0 in
          (rw shown.0, rw same shown.1)

  -- where none were printed the line is that of the program check
  pub none_taken : (why : Refusal) (at : ℕ) (page : List ℕ) → length text ≤ list_limit → page_limit ≤ length page
      → files_printed image text page ≡ refused_at why at
      → printout_by (list_answer image text) image text ≡ answer_line image text
  unfolding files_printed printed_as list_answer answer_of verdict_answer answer_by printout_by
  none_taken why at page short room e = by given refl e
    where
      by : (r : ListRead) → given ≡ r → printed_as r image text page ≡ refused_at why at
          → printout_by (answer_of r image text) image text ≡ answer_line image text
      by (Err why') read told = refl
      by (Ok h) read told = judged (verdict image marks h.base h.reset) refl
        where
          marks : List ℕ
          marks = marks_of (address_digits text) h text

          judged : (v : Verdict) → verdict image marks h.base h.reset ≡ v
              → printout_by (answer_by v marks) image text ≡ answer_line image text
          judged (Err r) v = refl
          judged (Ok _) v =
              let rows_are = page_rows image marks h.base h.reset page v in
              let passed = (read_passes (is_old text) (header_shown text) h text (length image) read).1.0 in
              let few = starts_in_text (is_old text) h text passed in
              let whole = printed_whole image marks h.base h.reset page v (omega arith) in
              absurd (omega (arith, ap rows (sym told ∙ whole)))

  -- a file over its limit
  pub over_printed : are_within_limits image text ≡ false → printout image text ≡ answer_line image text
  unfolding printout printout_by
  over_printed over = rw (← over_limits image text over)

  -- both within their limits
  pub within_printed : are_within_limits image text ≡ true
      → printout image text ≡ printout_by (list_answer image text) image text
  unfolding printout
  within_printed within = rw (← within_limits image text within)
