-- Routine lists: the test for 14 passes exactly these, and one within the image is the lines of its routines. The walk
-- over all addresses takes what a reader takes who goes from line to line: an address takes nothing unless the text
-- begins with it.
-- Assumes nothing.
use mathlib.Core.Path.{◌≡◌, refl, ap, ◌∙◌}
use mathlib.Core.Logic.{◌↔◌, ◌⊎◌, inl, inr}
use mathlib.Core.Bool.{Bool, true, false}
use mathlib.Core.List.{List, [], append-nil, ◌++◌, append_assoc}
use Prim.Native.Nat.{ℕ, zero, suc, ◌+◌, ◌-◌, ◌^◌, ◌≤◌, ◌<◌}
use native.Mathlib.Omega.{arith}
use borrow.Author.Tests.{eqb-true, eqb-false}
use lib.Dec.{eqb}
use lib.ListN.{length, drop}
use Rattle.text.specs.Digits.{digits, value}
use Rattle.lists.specs.MarkList.{tab, digits_by, fields, line, lines, is_line, mark_shown, line_size, marks_shown}
use Rattle.lists.specs.MarkList.{lines_left}
use Rattle.lists.specs.ListForm.{StartLines, none, start}
use Rattle.lists.specs.Routines.{has_old_lines, routine_digits, is_routine_list, first_routine, routine_marks}
use Rattle.lists.specs.Routines.{routines_inside, RoutinesExactly, RoutinesWhole}
use Rattle.lists.proofs.MarkList.{shown_start, line_address, no_line, shown_lines, old_shown}
use Rattle.lists.proofs.ListForm.{taken_lines, lines_taken}
use Rattle.lists.proofs.RoundTrips.{nothing}

-- addresses in turn take all lines exactly where these are lines of starts among them
taken_exactly : (count end address n : ℕ) (text : List ℕ) → address + n ≡ end
    → (eqb (length (lines_left count address n text)) 0 ≡ true) ↔ StartLines count end address text
taken_exactly count end address n text e = (
  λ left. taken_lines count end address n text e (nothing (lines_left count address n text) left),
  λ l. rw (lines_taken count end address n text e l) refl,
)

-- a line shows how many digits its address has, and so do lines of starts
pub line_old : (old : Bool) (address mark : ℕ) (rest : List ℕ)
    → has_old_lines (line (digits_by old) address mark ++ rest) ≡ old
unfolding has_old_lines line fields
line_old old address mark rest =
    rw (append_assoc (digits 16 (digits_by old) address) (fields mark) rest)
    (old_shown old address tab _ (omega arith))

pub lines_old : (old : Bool) (end low : ℕ) (text : List ℕ) → StartLines (digits_by old) end low text
    → (text ≡ []) ⊎ (has_old_lines text ≡ old)
lines_old old end low text (none at) = inl refl
lines_old old end low text (start at address mark rest from below inside started formed more) =
    inr (line_old old address mark rest)

-- all addresses of so many digits
all_exactly : (count : ℕ) (text : List ℕ)
    → (eqb (length (lines_left count 0 (16 ^ count) text)) 0 ≡ true) ↔ StartLines count (16 ^ count) 0 text
all_exactly count text = taken_exactly count (16 ^ count) 0 (16 ^ count) text (omega arith)

pub routines_exactly : RoutinesExactly
unfolding is_routine_list
routines_exactly text = (
  λ e. record { old = has_old_lines text; starts = (all_exactly (routine_digits text) text).0 e },
  λ l. by l.old l.starts (lines_old l.old _ 0 text l.starts),
)
  where
    by : (old : Bool) → StartLines (digits_by old) (16 ^ digits_by old) 0 text
        → (text ≡ []) ⊎ (has_old_lines text ≡ old)
        → eqb (length (lines_left (routine_digits text) 0 (16 ^ routine_digits text) text)) 0 ≡ true
    by old l (inl empty) = rw empty ((all_exactly (routine_digits []) []).1 (none 0))
    by old l (inr same) = rw same ((all_exactly (digits_by old) text).1 l)

pub inside_exactly : (base n : ℕ) (text : List ℕ) → let first = first_routine base text in
    (routines_inside base n text ≡ true) ↔ StartLines (routine_digits text) (first + n) first text
unfolding routines_inside
inside_exactly base n text =
    let first = first_routine base text in taken_exactly (routine_digits text) (first + n) first n text refl

pub routines_whole : RoutinesWhole
unfolding routines_inside routine_marks
routines_whole base n text e =
    let count = routine_digits text in
    let first = first_routine base text in
    let left = nothing (lines_left count first n text) e in
    rw left at (shown_lines count first n text) ∙ append-nil (lines count first (marks_shown count first n text))

-- ---- from line to line

-- an address that shows a line takes it, another nothing
left_line : (count address n : ℕ) (text : List ℕ) → is_line count address text ≡ true
    → lines_left count address (suc n) text ≡ lines_left count (address + 1) n (drop (count + 11) text)
unfolding lines_left mark_shown line_size
left_line count address n text h = rw (h, shown_start (drop count text)) refl

left_none : (count address n : ℕ) (text : List ℕ) → is_line count address text ≡ false
    → lines_left count address (suc n) text ≡ lines_left count (address + 1) n text
unfolding lines_left mark_shown line_size
left_none count address n text h = rw h refl

left_skip : (count address k n : ℕ) (text : List ℕ)
    → ((j : ℕ) → address ≤ j → j < address + k → is_line count j text ≡ false)
    → lines_left count address (k + n) text ≡ lines_left count (address + k) n text
left_skip count address zero n text unlisted =
    let same : address + 0 ≡ address = omega arith in
    let all : 0 + n ≡ n = omega arith in
    rw (same, all) refl
left_skip count address (suc k) n text unlisted =
    let same : address + suc k ≡ address + 1 + k = omega arith in
    let more : suc k + n ≡ suc (k + n) = omega arith in
    rw (same, more)
    (left_none count address (k + n) text (unlisted address (omega arith) (omega arith))
    ∙ left_skip count (address + 1) k n text (λ j low high. unlisted j (omega arith) (omega arith)))

-- no address shows a line but that of the text's first digits
other_address : (count address : ℕ) (text : List ℕ) → (value 16 count text ≡ address → ⊥)
    → is_line count address text ≡ false
other_address count address text other = by (is_line count address text) refl
  where
    by : (b : Bool) → is_line count address text ≡ b → b ≡ false
    by true h = absurd (other (line_address count address text h))
    by false h = refl

-- the addresses up to an end, from a next one on
abbrev pub left_to : ℕ → ℕ → ℕ → List ℕ → List ℕ
left_to count end next text = lines_left count next (end - next) text

-- the address that the text begins with takes its line, and those before it nothing
pub left_taken : (count end next : ℕ) (text : List ℕ) → next ≤ value 16 count text → value 16 count text < end
    → is_line count (value 16 count text) text ≡ true
    → left_to count end next text ≡ left_to count end (value 16 count text + 1) (drop (count + 11) text)
left_taken count end next text low high h =
    let v = value 16 count text in
    let parted : end - next ≡ (v - next) + suc (end - (v + 1)) = omega arith in
    let there : next + (v - next) ≡ v = omega arith in
    let skipped = left_skip count next (v - next) (suc (end - (v + 1))) text
    (λ j from below. other_address count j text (λ e. omega arith)) in
    ap (λ n. lines_left count next n text) parted ∙ skipped
    ∙ ap (λ a. lines_left count a (suc (end - (v + 1))) text) there ∙ left_line count v (end - (v + 1)) text h

-- where the text begins with no line, or with one of an address that has been passed, nothing is taken
pub left_all : (count end next : ℕ) (text : List ℕ)
    → ((j : ℕ) → next ≤ j → is_line count j text ≡ false) → left_to count end next text ≡ text
unfolding lines_left
left_all count end next text unlisted =
    let all : end - next ≡ (end - next) + 0 = omega arith in
    ap (λ n. lines_left count next n text) all ∙ left_skip count next (end - next) 0 text (λ j low high. unlisted j low)

pub none_later : (count next : ℕ) (text : List ℕ) → value 16 count text < next → (j : ℕ) → next ≤ j
    → is_line count j text ≡ false
none_later count next text passed j low = other_address count j text (λ e. omega arith)

pub none_there : (count next : ℕ) (text : List ℕ) → is_line count (value 16 count text) text ≡ false → (j : ℕ)
    → next ≤ j → is_line count j text ≡ false
none_there count next text h j low = by (eqb (value 16 count text) j) refl
  where
    by : (b : Bool) → eqb (value 16 count text) j ≡ b → is_line count j text ≡ false
    by true e = rw (← eqb-true (value 16 count text) j e) h
    by false e = other_address count j text (eqb-false (value 16 count text) j e)

pub left_empty : (count end next : ℕ) → left_to count end next [] ≡ []
left_empty count end next = left_all count end next [] (λ j low. no_line count j)
