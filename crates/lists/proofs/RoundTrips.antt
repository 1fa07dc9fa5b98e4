-- Reading and writing undo one another. What the reader takes is the text, in its digits, of the first line and the
-- marks that it shows, so the writer writes that list in six digits; and the text of marks that the writer takes shows
-- its first line and its marks.
-- Assumes nothing.
use Rattle.std.specs.Prelude.{Ok}
use mathlib.Core.Path.{◌≡◌, refl, sym, ap, ◌∙◌}
use mathlib.Core.Bool.{Bool, true, false}
use mathlib.Core.List.{List, [], ◌∷◌, ◌++◌, append-nil}
use Prim.Native.Nat.{ℕ, ◌+◌, ◌*◌, ◌≤◌, ◌<◌}
use native.Mathlib.Nat.{mod-eq_of_lt}
use native.Mathlib.Omega.{arith}
use borrow.Author.Tests.{le-leb, lt-ltb, eqb-true, eq-eqb}
use lib.Dec.{eqb, ltb}
use lib.ListN.{length, take, drop, length-append}
use lib.Seq.{take_at, drop_at}
use Rattle.types.specs.declared.lists.Header.{Header}
use Rattle.types.specs.Refusals.{first_refusal}
use Rattle.text.specs.Text.{starts_with}
use Rattle.types.specs.Addresses.{address_limit}
use Rattle.prelude.specs.First.{first_from}
use Rattle.acceptance.specs.Image.{start_count}
use Rattle.acceptance.specs.Verdict.{bad_mark, unformed_at, all_formed}
use Rattle.lists.specs.MarkList.{length_limit, new_digits, digits_by, header_text, lines, first_address, list_text}
use Rattle.lists.specs.MarkList.{address_digits, is_old, header_shown, is_header, lines_left, lines_text, left_of}
use Rattle.lists.specs.MarkList.{marks_shown, marks_of, is_list, list_base_fits, read_tests, read_as, read_list}
use Rattle.lists.specs.MarkList.{marks_by}
use Rattle.lists.specs.MarkList.{marks_read, write_tests, write_list, page_by, page_written}
use Rattle.prelude.proofs.First.{passed_all}
use Rattle.acceptance.proofs.Image.{right_length, base_below, base_whole, reset_inside}
use Rattle.prelude.proofs.Choice.{both_true}
use Rattle.acceptance.proofs.Verdict.{formed_all}
use Rattle.lists.proofs.ListAnswers.{read_passes, length_marks_of, list_base, written_passes}
use Rattle.types.proofs.TestResults.{AllHold, none_fails}
use Rattle.text.proofs.Text.{starts_split, starts_append}
use Rattle.lists.proofs.MarkList.{all_formed_lem, shown_lines, lines_again, old_again, header_again, length_lines}

-- ---- what was read

-- a text that is a list is the text of the first line and the marks that it shows
pub nothing : (l : List ℕ) → eqb (length l) 0 ≡ true → l ≡ []
nothing [] h = refl
nothing (b ∷ l) h = absurd (omega (arith, eqb-true (length (b ∷ l)) 0 h))

lines_and_left : (count : ℕ) (h : Header) (text : List ℕ)
    → lines_text count h text ≡ lines count (first_address count h.base) (marks_of count h text) ++ left_of count h text
unfolding marks_of left_of
lines_and_left count h text = shown_lines count (first_address count h.base) h.length (lines_text count h text)

is_text : (count : ℕ) (h : Header) (text : List ℕ) → is_list count h text ≡ true
    → list_text count (marks_of count h text) h.base h.reset ≡ text
unfolding is_list is_header list_text lines_text
is_text count h text e =
    let marks = lines count (first_address count h.base) (marks_of count h text) in
    let outer = both_true (is_header count h text) (eqb (length (left_of count h text)) 0) e in
    let header = both_true (ltb h.length length_limit) (starts_with (header_text count h) text) outer.0 in
    let split = starts_split (header_text count h) text header.1 in
    let none = nothing (left_of count h text) outer.1 in
    let whole : marks ≡ lines_text count h text =
    sym (append-nil marks) ∙ sym (rw none at (lines_and_left count h text)) in
    rw (length_marks_of count h text) (ap (header_text count h ++◌) whole ∙ sym split)

-- all marks of a list are in form
pub formed_marks : (count : ℕ) (h : Header) (text : List ℕ) → all_formed (marks_of count h text) ≡ true
unfolding bad_mark marks_of
formed_marks count h text =
    let marks = marks_of count h text in
    let first = first_address count h.base in
    let long = length_marks_of count h text in
    eq-eqb (first_from (unformed_at marks) 0 (length marks)) (length marks)
    (sym (passed_all (unformed_at marks) 0 (length marks) (length marks) (
      omega arith,
      λ k low high. rw (all_formed_lem count first h.length (lines_text count h text) k (omega arith)),
    ) (omega arith) (omega arith)))

-- what was read is the list, in its digits, of the marks, base and reset that it gave
pub read_is_text : (text marks : List ℕ) (h : Header) → read_list text marks ≡ Ok h
    → list_text (address_digits text) (marks_read text marks) h.base h.reset ≡ text
unfolding read_list marks_read marks_by
read_is_text text marks h e =
    let count = address_digits text in
    rw e (is_text count h text (read_passes (is_old text) (header_shown text) h text (length marks) e).1.0)

-- it has a line of 15 bytes or more for each start
pub starts_in_text : (old : Bool) (h : Header) (text : List ℕ) → is_list (digits_by old) h text ≡ true
    → 15 * start_count (marks_of (digits_by old) h text) ≤ length text
unfolding list_text
starts_in_text old h text e =
    let count = digits_by old in
    let marks = marks_of count h text in
    let first = header_text count (record { base = h.base; length = length marks; reset = h.reset }) in
    let whole = sym (length-append first (lines count (first_address count h.base) marks))
    ∙ ap length (is_text count h text e) in
    omega (arith, whole, by old (start_count marks) (length_lines count (first_address count h.base) marks))
  where
    by : (b : Bool) {n : ℕ} (s : ℕ) → n ≡ (digits_by b + 11) * s → 15 * s ≤ n
    by true s long = omega arith
    by false s long = omega arith

-- R-7: 'an old list comes out in six digits': in whichever digits it was read, a list is written as the one in six
-- digits of the same marks, base and reset
pub read_then_written : (text marks page : List ℕ) (h : Header) → read_list text marks ≡ Ok h
    → let list = list_text new_digits (marks_read text marks) h.base h.reset in
    length list ≤ length page
    → (write_list (marks_read text marks) h.base h.reset page ≡ Ok (length list))
    × (page_written (marks_read text marks) h.base h.reset page ≡ list ++ drop (length list) page)
unfolding read_list marks_read marks_by page_written page_by write_list
read_then_written text marks page h e =
    let count = address_digits text in
    let held = (read_passes (is_old text) (header_shown text) h text (length marks) e).1 in
    let fits = right_length h.length (length marks) held.1.0 in
    let read = marks_of count h text in
    let list = list_text new_digits read h.base h.reset in
    let tests = write_tests read h.base h.reset page in
    let passes : length list ≤ length page → first_refusal tests ≡ Ok tt = λ long. none_fails tests (
      rw (length_marks_of count h text) (rw fits.same at held.1.0),
      (
        rw (length_marks_of count h text) (list_base (is_old text) h.base h.length held.1.1.0),
        (formed_marks count h text, (held.1.1.1.0, (le-leb (length list) (length page) long, tt))),
      ),
    ) in
    rw e (λ long. (rw (passes long) refl, rw (passes long) refl))

-- demand 2: 'a mark list read, and written again to a page long enough, is the same list', by R-7 'for lists in six'
pub six_again : (text marks page : List ℕ) (h : Header) → read_list text marks ≡ Ok h
    → is_old text ≡ false → length text ≤ length page
    → (write_list (marks_read text marks) h.base h.reset page ≡ Ok (length text))
    × (page_written (marks_read text marks) h.base h.reset page ≡ text ++ drop (length text) page)
six_again text marks page h e six long =
    let same = rw six at (read_is_text text marks h e) in
    rw same at (read_then_written text marks page h e (rw same long))

-- ---- what was written

-- the text of marks that were written shows its first line and the marks, and leaves nothing
module _ (marks : List ℕ) (base reset n : ℕ) (page : List ℕ)
    (w : AllHold (write_tests marks base reset page)) where
  abbrev first_line : Header
  first_line = record { base = base; length = length marks; reset = reset }

  abbrev low : ℕ
  low = first_address new_digits base

  abbrev list : List ℕ
  list = list_text new_digits marks base reset

  few : length marks < length_limit
  few = omega (arith, (right_length (length marks) (length marks) w.0).few)

  based : base < address_limit
  based = base_below base (length marks) w.1.0

  whole : base + length marks ≤ address_limit
  whole = base_whole base (length marks) w.1.0

  shows_six : is_old list ≡ false
  unfolding list_text
  shows_six = old_again false first_line (lines new_digits low marks)

  shows_header : header_shown list ≡ first_line
  unfolding list_text
  shows_header =
      header_again false first_line (lines new_digits low marks) based few
      ∙ ap (λ to. record { base = base; length = length marks; reset = to })
      (mod-eq_of_lt (omega (arith, whole, reset_inside marks base reset w.1.1.1.0)))

  shows_lines : lines_text new_digits first_line list ≡ lines new_digits low marks
  unfolding list_text lines_text
  shows_lines =
      drop_at (header_text new_digits first_line) (lines new_digits low marks)
      (length (header_text new_digits first_line))
      refl

  shows_marks : (marks_shown new_digits low (length marks) (lines new_digits low marks) ≡ marks)
      × (lines_left new_digits low (length marks) (lines new_digits low marks) ≡ [])
  unfolding bad_mark
  shows_marks =
      lines_again new_digits low marks (omega (arith, based, whole)) (formed_all marks w.1.1.0)

  shows_list : is_list new_digits first_line list ≡ true
  unfolding is_list is_header left_of list_text
  shows_list =
      rw (
        lt-ltb (length marks) length_limit few,
        starts_append (header_text new_digits first_line) (lines new_digits low marks),
        shows_lines,
        shows_marks.1,
      )

  marks_again : marks_of new_digits first_line list ≡ marks
  unfolding marks_of
  marks_again = rw shows_lines shows_marks.0

  read_again : (lent : ℕ) → lent ≡ length marks → read_as false first_line list lent ≡ Ok first_line
  unfolding read_as list_base_fits
  read_again lent same =
      rw (none_fails (read_tests false first_line list lent)
      (shows_list, (rw same w.0, (fits, (rw marks_again w.1.1.1.0, tt)))))
    where
      fits : list_base_fits false base (length marks) ≡ true
      fits = rw w.1.0 refl

-- a list that was written is read as the same marks, base and reset, into marks of their length
pub written_then_read : (marks : List ℕ) (base reset n : ℕ) (page lent : List ℕ)
    → write_list marks base reset page ≡ Ok n → length lent ≡ length marks
    → (read_list (take n (page_written marks base reset page)) lent
    ≡ Ok (record { base = base; length = length marks; reset = reset }))
    × (marks_read (take n (page_written marks base reset page)) lent ≡ marks)
unfolding page_written page_by read_list marks_read marks_by
written_then_read marks base reset n page lent e same =
    let written = written_passes marks base reset n page e in
    let w = written.1 in
    let text = take_at (list_text new_digits marks base reset) (drop n page) n written.0 in
    let six = shows_six marks base reset n page w in
    let shown = shows_header marks base reset n page w in
    let answer = read_again marks base reset n page w (length lent) same in
    let list = list_text new_digits marks base reset in
    let h : Header = record { base = base; length = length marks; reset = reset } in
    let marks-of = ap (λ old. marks_of (digits_by old) h list) six ∙ marks_again marks base reset n page w in
    rw (e, text, six, shown, answer) (refl, marks-of)
