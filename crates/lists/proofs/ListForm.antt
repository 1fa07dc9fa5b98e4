-- The reader's test for 14 passes exactly the texts that are mark lists. The addresses in turn take lines of starts,
-- and no other text, whole: by induction over the addresses. A first line shows what it was made of.
-- Assumes nothing.
use Rattle.std.specs.Prelude.{Err}
use mathlib.Core.Path.{◌≡◌, refl, sym, ap, ◌∙◌}
use mathlib.Core.Logic.{◌↔◌, ◌⊎◌, inl, inr}
use mathlib.Core.Bool.{Bool, true, false}
use mathlib.Core.List.{List, [], ◌++◌, append-nil}
use Prim.Native.Nat.{ℕ, zero, suc, ◌+◌, ◌%◌, ◌^◌, ◌≤◌, ◌<◌}
use native.Mathlib.Nat.{eq-or-lt_of_le, mod-lt, one-le-pow}
use native.Mathlib.Omega.{arith}
use borrow.Author.Tests.{lt-ltb, ltb-true}
use lib.Dec.{eqb, ltb}
use lib.ListN.{length, drop}
use lib.Seq.{drop_at}
use Rattle.types.specs.declared.lists.Header.{Header}
use Rattle.types.specs.declared.refusals.Refusal.{Refusal}
use Rattle.prelude.specs.Choice.{pick}
use Rattle.types.specs.Refusals.{first_refusal}
use Rattle.text.specs.Digits.{digits}
use Rattle.types.specs.Addresses.{in_bank_of}
use Rattle.text.specs.Text.{starts_with}
use Rattle.acceptance.specs.Image.{is_start, is_formed, length_fits}
use Rattle.lists.specs.MarkList.{length_limit, digits_by, header_text, line, first_address, is_old, address_digits}
use Rattle.lists.specs.MarkList.{whole_reset, header_shown, is_header, fields_mark, is_line, mark_shown, line_size}
use Rattle.lists.specs.MarkList.{lines_left, lines_text, left_of, is_list, read_as, read_list}
use Rattle.lists.specs.ListForm.{StartLines, IsMarkList}
use Rattle.lists.specs.ListForm.StartLines.{none, start}
use Rattle.text.proofs.DigitLaws.{digits_low}
use Rattle.text.proofs.Text.{starts_split, starts_append}
use Rattle.prelude.proofs.Choice.{both_true}
use Rattle.lists.proofs.MarkList.{length_line, shown_start, line_at, own_line, other_line, no_line, old_again}
use Rattle.lists.proofs.MarkList.{header_again}
use Rattle.lists.proofs.RoundTrips.{nothing}

-- ---- the lines

-- lines from an address on are lines from a lower one on
lower : (count end low high : ℕ) (text : List ℕ) → low ≤ high → StartLines count end high text
    → StartLines count end low text
lower count end low high text h (none above) = none low
lower count end low high text h (start above address mark rest from below inside started formed more) =
    start low address mark rest (omega arith) below inside started formed more

-- what the addresses in turn take whole is lines of starts
pub taken_lines : (count end address n : ℕ) (text : List ℕ) → address + n ≡ end → lines_left count address n text ≡ []
    → StartLines count end address text
unfolding lines_left mark_shown line_size
taken_lines count end address zero text e left = rw left (none address)
taken_lines count end address (suc n) text e left =
    by (is_line count address text) refl left (λ rest. taken_lines count end (address + 1) n rest (omega arith))
  where
    by : (b : Bool) → is_line count address text ≡ b
        → lines_left count (address + 1) n (drop (line_size count (pick b (fields_mark (drop count text)) 0)) text) ≡ []
        → ((rest : List ℕ) → lines_left count (address + 1) n rest ≡ [] → StartLines count end (address + 1) rest)
        → StartLines count end address text
    by true h left next =
        let mark = fields_mark (drop count text) in
        let started = shown_start (drop count text) in
        let l = line_at count address text h in
        let split = rw (length_line count address mark) at (starts_split (line count address mark) text l.begins) in
        rw split
        (start address address mark (drop (count + 11) text) (omega arith) (omega arith) l.inside started l.formed
        (next (drop (count + 11) text) (rw started at left)))
    by false h left next = lower count end address (address + 1) text (omega arith) (next text left)

-- a start's address takes its line
taken_own : (count address n mark : ℕ) (rest : List ℕ) → address < 16 ^ count → is_start mark ≡ true
    → is_formed mark ≡ true
    → lines_left count address (suc n) (line count address mark ++ rest) ≡ lines_left count (address + 1) n rest
unfolding lines_left line_size
taken_own count address n mark rest inside started formed =
    rw (own_line count address mark rest inside started formed, started)
    (ap (lines_left count (address + 1) n)
    (drop_at (line count address mark) rest (count + 11) (length_line count address mark)))

-- the addresses in turn take lines of starts whole
pub lines_taken : (count end address n : ℕ) (text : List ℕ) → address + n ≡ end → StartLines count end address text
    → lines_left count address n text ≡ []
unfolding lines_left mark_shown line_size
lines_taken count end address zero text e (none low) = refl
lines_taken count end address zero text e (start low a mark rest from below inside started formed more) =
    absurd (omega arith)
lines_taken count end address (suc n) text e (none low) =
    rw (no_line count low) (lines_taken count end (low + 1) n [] (omega arith) (none (low + 1)))
lines_taken count end address (suc n) text e (start low a mark rest from below inside started formed more) =
    by (eq-or-lt_of_le from) (λ text. lines_taken count end (low + 1) n text (omega arith))
  where
    by : (low ≡ a) ⊎ (low < a)
        → ((text : List ℕ) → StartLines count end (low + 1) text → lines_left count (low + 1) n text ≡ [])
        → lines_left count low (suc n) (line count a mark ++ rest) ≡ []
    by (inl same) next =
        rw (← same) (taken_own count low n mark rest (omega arith) started formed ∙ next rest (rw same more))
    by (inr past) next =
        rw (other_line count low a mark rest past inside)
        (next (line count a mark ++ rest) (start (low + 1) a mark rest (omega arith) below inside started formed more))

-- ---- the list

-- the header of the digits that a first line has
abbrev as_written : ℕ → Header → Header
as_written count h = record { base = h.base % 16 ^ 6; length = h.length; reset = h.reset % 16 ^ count }

same_header : (count : ℕ) (h : Header) → header_text count (as_written count h) ≡ header_text count h
unfolding header_text
same_header count h = rw (digits_low 16 6 h.base (omega arith), digits_low 16 count h.reset (omega arith))

-- the base's low digits are those of its six
same_first : (old : Bool) (base : ℕ) → first_address (digits_by old) (base % 16 ^ 6) ≡ first_address (digits_by old)
    base
same_first true base = omega arith
same_first false base = omega arith

-- a text that passes the reader's test is a mark list
tested_list : (old : Bool) (h : Header) (text : List ℕ) → is_list (digits_by old) h text ≡ true → IsMarkList text
unfolding is_list is_header left_of lines_text
tested_list old h text e =
    let count = digits_by old in
    let outer = both_true (is_header count h text) (eqb (length (left_of count h text)) 0) e in
    let header = both_true (ltb h.length length_limit) (starts_with (header_text count h) text) outer.0 in
    let first = first_address count h.base in
    let left = nothing (left_of count h text) outer.1 in
    record {
      old = old;
      header = as_written count h;
      base_digits = omega arith;
      length_digits = ltb-true h.length length_limit header.0;
      reset_digits = mod-lt h.reset (one-le-pow count 16 (omega arith));
      lines = lines_text count h text;
      starts = rw (same_first old h.base)
          (taken_lines count _ first h.length (lines_text count h text) refl left);
      whole = rw (same_header count h) (starts_split (header_text count h) text header.1);
    }

-- a mark list shows whether it is old, its first line, and passes
pub shows_old : (text : List ℕ) (l : IsMarkList text) → is_old text ≡ l.old
shows_old text l = ap is_old l.whole ∙ old_again l.old l.header l.lines

-- a first line as it is read
abbrev as_read : Bool → Header → Header
as_read old h = record {
  base = h.base;
  length = h.length;
  reset = whole_reset old h.base (h.reset % 16 ^ digits_by old);
}

shows_header : (text : List ℕ) (l : IsMarkList text) → header_shown text ≡ as_read l.old l.header
shows_header text l =
    ap header_shown l.whole ∙ header_again l.old l.header l.lines l.base_digits l.length_digits

-- the digits of the bank are left out again
same_digits : (old : Bool) (base reset : ℕ)
    → digits 16 (digits_by old) (whole_reset old base (reset % 16 ^ digits_by old)) ≡ digits 16 (digits_by old) reset
same_digits true base reset =
    let low : in_bank_of base (reset % 16 ^ 4) % 16 ^ 4 ≡ reset % 16 ^ 4 = omega arith in
    sym (digits_low 16 4 (in_bank_of base (reset % 16 ^ 4)) (omega arith)) ∙ ap (digits 16 4) low
    ∙ digits_low 16 4 reset (omega arith)
same_digits false base reset = digits_low 16 6 reset (omega arith)

same_read : (old : Bool) (h : Header) → header_text (digits_by old) (as_read old h) ≡ header_text (digits_by old) h
unfolding header_text
same_read old h = rw (same_digits old h.base h.reset)

list_tested : (text : List ℕ) → IsMarkList text → is_list (address_digits text) (header_shown text) text ≡ true
unfolding is_list is_header left_of lines_text
list_tested text l =
    let h = l.header in
    let count = digits_by l.old in
    let first = header_text count h in
    rw (
      shows_old text l,
      shows_header text l,
      same_read l.old h,
      l.whole,
      lt-ltb h.length length_limit l.length_digits,
      starts_append first l.lines,
      drop_at first l.lines (length first) refl,
      lines_taken count _ (first_address count h.base) h.length l.lines refl l.starts,
    )

-- the reader's test is exactly that of the papers
pub list_exactly : (text : List ℕ) → (is_list (address_digits text) (header_shown text) text ≡ true) ↔ IsMarkList text
list_exactly text = (tested_list (is_old text) (header_shown text) text, list_tested text)

-- 'a lone 0 is in form and gets 1'
pub lone_zero : (old : Bool) (base reset : ℕ) (marks : List ℕ) → base < 16 ^ 6 → reset < 16 ^ digits_by old
    → let text = header_text (digits_by old) (record { base = base; length = 0; reset = reset }) in
    IsMarkList text × (read_list text marks ≡ Err Refusal.Length)
unfolding read_list read_as length_fits first_refusal
lone_zero old base reset marks based started = (l, rw (list_tested text l, shows_header text l))
  where
    h : Header
    h = record { base = base; length = 0; reset = reset }

    text : List ℕ
    text = header_text (digits_by old) h

    l : IsMarkList text
    l = record {
      old = old;
      header = h;
      base_digits = based;
      length_digits = omega arith;
      reset_digits = started;
      lines = [];
      starts = none (first_address (digits_by old) base);
      whole = sym (append-nil text);
    }
