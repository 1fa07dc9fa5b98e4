-- The marks that are read are those of the list; the explanation has room behind the answer's line.
-- Assumes nothing.
use Rattle.std.specs.Prelude.{Ok, Err}
use Rattle.std.specs.Result.{result_unwrap_or}
use mathlib.Core.Path.{◌≡◌, refl, sym, ap, ◌∙◌}
use mathlib.Core.Bool.{true, false}
use mathlib.Core.List.{List, [], ◌++◌, append-nil}
use Prim.Native.Nat.{ℕ, ◌+◌, ◌-◌, ◌≤◌}
use native.Mathlib.Omega.{arith}
use borrow.Author.Tests.{le-leb}
use borrow.Rule.Slice.PartMut.{put_mid}
use lib.ListN.{length, take, drop}
use Rattle.types.specs.declared.lists.Header.{Header}
use Rattle.types.specs.Answers.{Printed}
use Rattle.types.specs.declared.refusals.Refusal.{Refusal}
use Rattle.text.proofs.Pages.{Front, front_next, part_room}
use Rattle.lists.specs.MarkList.{read_list, marks_read, marks_by}
use Rattle.reports.specs.PrintedPage.{page_after}
use Rattle.reports.specs.Explanation.{line_limit, explanation, explained, page_explained}
use Rattle.answer.specs.AnswerLine as answer
use Rattle.answer.specs.AnswerLine.{are_within_limits, Put, line_for, answer_for, answer_line}
use Rattle.answer.proofs.PutLaws.{front_part}
use Rattle.explanation.specs.Explained.{explanation_as, list_explanation, files_explanation, answer_explained}
use Rattle.explanation.specs.Explained.{text_limit}

-- ---- by the list

module _ (image text marks : List ℕ) (alike : length marks ≡ length image) where
  pub list_refused : (why : Refusal) → read_list text marks ≡ Err why → list_explanation image text ≡ []
  unfolding list_explanation explanation_as read_list
  list_refused why e = rw (← alike, e)

  pub list_explained : (h : Header) → read_list text marks ≡ Ok h
      → explanation image (marks_read text marks) h.base h.reset ≡ list_explanation image text
  unfolding list_explanation explanation_as read_list marks_read marks_by
  list_explained h e = rw (← alike, e)

-- ---- with room for the longest line it is written

module _ (image marks : List ℕ) (base reset : ℕ) (page left : List ℕ) (room : line_limit ≤ length page)
    (short : length (explanation image marks base reset) ≤ line_limit)
    (kept : left ≡ page_explained image marks base reset page) where
  abbrev line : List ℕ
  line = explanation image marks base reset

  whole : explained image marks base reset page ≡ Ok (length line)
  unfolding explained
  whole = rw (le-leb (length line) (length page) (omega arith))

  pub line_size : (told : Printed) (n : ℕ) → told ≡ explained image marks base reset page
      → n ≡ result_unwrap_or told 0 → n ≡ length line
  line_size told n e size = size ∙ ap (λ a. result_unwrap_or a 0) (e ∙ whole)

  pub line_left : left ≡ line ++ drop (length line) page
  unfolding page_explained page_after
  line_left = kept ∙ (rw whole refl)

-- a list that is read, explained
pub explained_by : (image text marks read page left : List ℕ) (h : Header) (told : Printed) (n : ℕ) → length marks ≡
    length image
    → read_list text marks ≡ Ok h → read ≡ marks_read text marks → line_limit ≤ length page
    → length (explanation image read h.base h.reset) ≤ line_limit
    → left ≡ page_explained image read h.base h.reset page
    → told ≡ explained image read h.base h.reset page → n ≡ result_unwrap_or told 0
    → (n ≡ length (list_explanation image text)) × (left ≡ list_explanation image text ++ drop n page) ×
    (n ≤ line_limit)
explained_by image text marks read page left h told n alike e m room short kept answer taken =
    let same : explanation image read h.base h.reset ≡ list_explanation image text =
    rw m (list_explained image text marks alike h e) in
    let size = line_size image read h.base h.reset page left room short kept told n answer taken in (
      size ∙ ap length same,
      rw (size, ← same) (line_left image read h.base h.reset page left room short kept),
      omega arith,
    )

-- ---- over the limits nothing follows

module _ (image text : List ℕ) where
  pub over_limits : are_within_limits image text ≡ false → answer_explained image text ≡ answer_line image text
  unfolding answer_explained files_explanation
  over_limits over = rw over (append-nil (answer_line image text))

  pub within_limits : are_within_limits image text ≡ true
      → answer_explained image text ≡ answer_line image text ++ list_explanation image text
  unfolding answer_explained files_explanation
  within_limits within = rw within

  -- ---- both lines on a page

  abbrev Both : ℕ → List ℕ → List ℕ → Type 0
  Both r given page =
      ((r ≡ length (answer_explained image text)) × (page ≡ answer_explained image text ++ drop r given))
      × ((r ≤ length page) × (r ≡ length (take r page)))

  abbrev Answered : ℕ → List ℕ → List ℕ → Type 0
  Answered at given page = Put (line_for (answer_for image text)) answer.line_limit at given page

  both : {r : ℕ} (given page : List ℕ) → r ≡ length (answer_explained image text)
      → page ≡ answer_explained image text ++ drop r given → Both r given page
  both {r} given page size same =
      ((size, same), front_part (answer_explained image text) given page r size same)

  pub answer_alone : {at : ℕ} {given page : List ℕ} → answer_explained image text ≡ answer_line image text
      → Answered at given page → Both at given page
  unfolding answer_line
  answer_alone {at} {given} {page} alone p =
      both given page (rw alone p.size) (rw alone p.same)

  -- the page behind the answer's line
  begun : {at : ℕ} {given page : List ℕ} → text_limit ≤ length given → Answered at given page
      → Front given at (answer_line image text) page
  unfolding answer_line
  begun room p = record { same = p.same; long = sym p.size; room = omega (arith, p.most) }

  pub room_behind : {at : ℕ} {given page : List ℕ} → text_limit ≤ length given → Answered at given page
      → line_limit ≤ length (take (length page - at) (drop at page))
  room_behind room p = part_room line_limit (begun room p) (omega (arith, p.most))

  pub both_lines : {at r : ℕ} {given page part : List ℕ} → text_limit ≤ length given → Answered at given page
      → answer_explained image text ≡ answer_line image text ++ list_explanation image text
      → r ≡ length (list_explanation image text)
      → part ≡ list_explanation image text ++ drop r (take (length page - at) (drop at page)) → r ≤ line_limit
      → Both (at + r) given (put_mid at (length page - at) page part)
  both_lines {at} {r} {given} {page} {part} room p all size put short =
      let f = front_next r (list_explanation image text) part (begun room p) put (sym size) (omega (arith, p.most)) in
      both given _ (rw all (sym f.long)) (rw all f.same)
