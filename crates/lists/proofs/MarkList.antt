-- The parts of a list, each way. A text is the lines of the marks that it shows and what is left of it; and the lines
-- of marks show these marks again and leave nothing, since a line of a later address shows nothing for an earlier one:
-- its digits are another number. A first line shows the fields that it was made of.
-- Assumes nothing.
use mathlib.Core.Path.{◌≡◌, refl, sym, ap, ◌∙◌}
use mathlib.Core.Bool.{Bool, true, false, not, ◌&&◌, ◌||◌}
use mathlib.Core.List.{List, [], ◌∷◌, ◌++◌, append_assoc}
use mathlib.Core.Logic.{◌⊎◌, inl, inr}
use Prim.Native.Nat.{ℕ, zero, suc, ◌+◌, ◌*◌, ◌%◌, ◌^◌, ◌≤◌, ◌<◌}
use native.Mathlib.Nat.{mod-lt, one-le-pow, mul-suc}
use native.Mathlib.Omega.{arith}
use borrow.Author.Tests.{ltb-true, lt-ltb, eqb-true, eq-eqb, ne_eqb}
use lib.Dec.{T, eqb, ltb, eqb→eq}
use lib.ListN.{length, get_or, drop, length-append, get_or-append}
use lib.Seq.{drop-drop, drop_at, get_or_at, get_or-drop}
use Rattle.types.specs.declared.lists.Header.{Header}
use Rattle.prelude.specs.Choice.{pick}
use Rattle.text.specs.Digits.{digit, digits, value}
use Rattle.text.specs.Text.{starts_with}
use Rattle.acceptance.specs.Image.{is_start, mark_m, mark_x, mark_kind, return_m, return_x, is_formed, start_count}
use Rattle.prelude.specs.First.{first_from}
use Rattle.lists.specs.MarkList.{tab, line_end, digits_of_length, length_limit, decimal_digits, digits_by, header_text}
use Rattle.lists.specs.MarkList.{kind_letter, fields, line, line_of, lines, tab_at, length_digits_shown, is_old}
use Rattle.lists.specs.MarkList.{whole_reset, header_shown, bit_shown, kind_shown, fields_mark, is_line, mark_shown}
use Rattle.lists.specs.MarkList.{line_size, marks_shown, lines_left}
use Rattle.prelude.proofs.Table.{up_to, below_all}
use Rattle.prelude.proofs.Choice.{one_of, both_true}
use Rattle.prelude.proofs.First.{first_is, first_only}
use Rattle.text.proofs.DigitLaws.{length_digits, digits_high, digits_low, behind_digits, value_digits, count_most}
use Rattle.text.proofs.DigitLaws.{count_enough}
use Rattle.text.proofs.Text.{starts_split, starts_append, starts_long, starts_join}

-- ---- a line

pub length_line : (count address mark : ℕ) → length (line count address mark) ≡ count + 11
unfolding line fields
length_line count address mark = simp (length-append, length_digits)

pub length_line_of : (count address mark : ℕ) → length (line_of count address mark) ≡ line_size count mark
unfolding line_of line_size
length_line_of count address mark = by (is_start mark)
  where
    by : (b : Bool) → length (pick b (line count address mark) []) ≡ pick b (count + 11) 0
    by true = length_line count address mark
    by false = refl

pub size_most : (count mark : ℕ) → line_size count mark ≤ count + 11
unfolding line_size
size_most count mark = by (is_start mark)
  where
    by : (b : Bool) → pick b (count + 11) 0 ≤ count + 11
    by true = omega arith
    by false = omega arith

-- no lines are longer than if every mark were a start
pub lines_most : (count address : ℕ) (marks : List ℕ) → length (lines count address marks) ≤ (count + 11) * length marks
unfolding lines
lines_most count address [] = omega arith
lines_most count address (mark ∷ marks) =
    rw (length-append (line_of count address mark) (lines count (address + 1) marks)) (omega (
      arith,
      length_line_of count address mark,
      size_most count mark,
      lines_most count (address + 1) marks,
    ))

-- each start has its line
pub length_lines : (count address : ℕ) (marks : List ℕ)
    → length (lines count address marks) ≡ (count + 11) * start_count marks
unfolding lines start_count line_size
length_lines count address [] = omega arith
length_lines count address (mark ∷ marks) =
    rw (
      length-append (line_of count address mark) (lines count (address + 1) marks),
      length_line_of count address mark,
      length_lines count (address + 1) marks,
    ) (by (is_start mark))
  where
    by : (b : Bool) → pick b (count + 11) 0 + (count + 11) * start_count marks
        ≡ (count + 11) * (pick b 1 0 + start_count marks)
    by true =
        let next : 1 + start_count marks ≡ suc (start_count marks) = omega arith in
        rw (next, mul-suc (count + 11) (start_count marks)) (omega arith)
    by false = let same : 0 + start_count marks ≡ start_count marks = omega arith in rw same (omega arith)

-- the mark that fields show starts an instruction
pub shown_start : (text : List ℕ) → is_start (fields_mark text) ≡ true
unfolding fields_mark
shown_start text = eq-eqb (fields_mark text % 2) 1 (omega arith)

pub record LineAt (count address : ℕ) (text : List ℕ) : Type 0 where
  pub inside : address < 16 ^ count
  pub begins : starts_with (line count address (fields_mark (drop count text))) text ≡ true
  pub formed : is_formed (fields_mark (drop count text)) ≡ true

pub line_at : (count address : ℕ) (text : List ℕ) → is_line count address text ≡ true → LineAt count address text
unfolding is_line line
line_at count address text h =
    let mark = fields_mark (drop count text) in
    let outer = both_true (ltb address (16 ^ count) && starts_with (digits 16 count address) text) _ h in
    let place = both_true (ltb address (16 ^ count)) (starts_with (digits 16 count address) text) outer.0 in
    let shown = both_true (starts_with (fields mark) (drop count text)) (is_formed mark) outer.1 in
    record {
      inside = ltb-true address (16 ^ count) place.0;
      begins = rw (starts_join (digits 16 count address) (fields mark) text, length_digits 16 count address, place.1)
          shown.0;
      formed = shown.1;
    }

-- ---- a text by its lines

-- a text is the line that it begins with, if any, and the rest
pub shown_line : (count address : ℕ) (text : List ℕ)
    → let mark = mark_shown count address text in text ≡ line_of count address mark ++ drop (line_size count mark) text
unfolding mark_shown line_of line_size
shown_line count address text = by (is_line count address text) refl
  where
    by : (b : Bool) → is_line count address text ≡ b
        → let mark = pick b (fields_mark (drop count text)) 0 in
        text ≡ line_of count address mark ++ drop (line_size count mark) text
    by false h = refl
    by true h =
        let mark = fields_mark (drop count text) in
        let split = starts_split (line count address mark) text (line_at count address text h).begins in
        rw (shown_start (drop count text)) (rw (length_line count address mark) at split)

pub shown_formed : (count address : ℕ) (text : List ℕ) → is_formed (mark_shown count address text) ≡ true
unfolding mark_shown is_formed
shown_formed count address text = by (is_line count address text) refl
  where
    by : (b : Bool) → is_line count address text ≡ b → is_formed (pick b (fields_mark (drop count text)) 0) ≡ true
    by true h = (line_at count address text h).formed
    by false h = refl

pub length_shown : (count address n : ℕ) (text : List ℕ) → length (marks_shown count address n text) ≡ n
unfolding marks_shown
length_shown count address zero text = refl
length_shown count address (suc n) text =
    ap suc (length_shown count (address + 1) n (drop (line_size count (mark_shown count address text)) text))

pub all_formed_lem : (count address n : ℕ) (text : List ℕ) (k : ℕ) → k < n
    → is_formed (get_or (marks_shown count address n text) k 0) ≡ true
unfolding marks_shown
all_formed_lem count address zero text k inside = absurd (omega arith)
all_formed_lem count address (suc n) text zero inside = shown_formed count address text
all_formed_lem count address (suc n) text (suc k) inside =
    all_formed_lem count (address + 1) n (drop (line_size count (mark_shown count address text)) text) k (omega arith)

-- a text is the lines of the marks that it shows and what is left
pub shown_lines : (count address n : ℕ) (text : List ℕ)
    → text ≡ lines count address (marks_shown count address n text) ++ lines_left count address n text
unfolding marks_shown lines_left lines
shown_lines count address zero text = refl
shown_lines count address (suc n) text =
    let mark = mark_shown count address text in
    let rest = drop (line_size count mark) text in
    shown_line count address text ∙ ap (line_of count address mark ++◌) (shown_lines count (address + 1) n rest)
    ∙ sym (append_assoc (line_of count address mark)
    (lines count (address + 1) (marks_shown count (address + 1) n rest))
    (lines_left count (address + 1) n rest))

-- ---- the lines of marks, shown again

-- fields show their mark, whatever follows: one computed test over the marks in form
shown_again : ℕ → Bool
shown_again mark = pick (is_start mark && is_formed mark) (eqb (fields_mark (fields mark)) mark) true

all_again : T (up_to shown_again 128)
unfolding shown_again fields_mark fields bit_shown kind_shown digit kind_letter is_formed
all_again = tt

-- a mark in form is 0 or a start, and has seven bits
pub formed_mark : (mark : ℕ) → is_formed mark ≡ true → (mark ≡ 0) ⊎ ((is_start mark ≡ true) × (mark < 128))
unfolding is_formed
formed_mark mark h = by (eqb mark 0) (is_start mark) (ltb mark 128) refl refl refl h
  where
    rest : Bool
    rest = not (eqb (mark_kind mark) 0) || (eqb (return_m mark) 0 && eqb (return_x mark) 0)

    by : (z s b : Bool) → eqb mark 0 ≡ z → is_start mark ≡ s → ltb mark 128 ≡ b
        → (z || (s && b && not (eqb (mark_kind mark) 3) && rest)) ≡ true
        → (mark ≡ 0) ⊎ ((is_start mark ≡ true) × (mark < 128))
    by true s b ez es eb h = inl (eqb-true mark 0 ez)
    by false true true ez es eb h = inr (es, ltb-true mark 128 eb)
    by false true false ez es eb h = let z : ◌≡◌ {A = ℕ} 0 1 = cc in absurd (omega arith)
    by false false b ez es eb h = let z : ◌≡◌ {A = ℕ} 0 1 = cc in absurd (omega arith)

fields_again : (mark : ℕ) (rest : List ℕ) → is_start mark ≡ true → is_formed mark ≡ true
    → fields_mark (fields mark ++ rest) ≡ mark
unfolding fields_mark fields shown_again
fields_again mark rest started formed =
    eqb→eq (fields_mark (fields mark)) mark
    (rw (started, formed) at (below_all shown_again 128 all_again mark (small (formed_mark mark formed))))
  where
    small : (mark ≡ 0) ⊎ ((is_start mark ≡ true) × (mark < 128)) → mark < 128
    small (inl e) = omega arith
    small (inr s) = s.1

-- each of a mark's fields is what its digit or letter shows: these make up the mark, and are in their ranges
bit_most : (byte : ℕ) → bit_shown byte ≤ 1
unfolding bit_shown
bit_most byte = one_of (eqb byte 0x30) 0 1 (omega arith) (omega arith)

kind_most : (byte : ℕ) → kind_shown byte ≤ 2
unfolding kind_shown
kind_most byte = by (eqb byte 0x4E) (eqb byte 0x53)
  where
    by : (n s : Bool) → pick n 0 (pick s 1 2) ≤ 2
    by true s = omega arith
    by false true = omega arith
    by false false = omega arith

pub record FieldsAgain (mark : ℕ) : Type 0 where
  pub m : bit_shown (digit (mark_m mark)) ≡ mark_m mark
  pub x : bit_shown (digit (mark_x mark)) ≡ mark_x mark
  pub kind : kind_shown (kind_letter (mark_kind mark)) ≡ mark_kind mark

pub each_again : (mark : ℕ) → is_start mark ≡ true → is_formed mark ≡ true → FieldsAgain mark
unfolding fields_mark fields
each_again mark started formed =
    let whole = fields_again mark [] started formed in
    let m = bit_most (digit (mark_m mark)) in
    let x = bit_most (digit (mark_x mark)) in
    let kind = kind_most (kind_letter (mark_kind mark)) in
    record { m = omega arith; x = omega arith; kind = omega arith }

-- an address that a text begins with is the number of its first digits
pub line_address : (count address : ℕ) (text : List ℕ) → is_line count address text ≡ true
    → value 16 count text ≡ address
unfolding line
line_address count address text h =
    let l = line_at count address text h in
    let mark = fields_mark (drop count text) in
    let split = starts_split (line count address mark) text l.begins in
    let rest = drop (length (line count address mark)) text in
    ap (value 16 count) (split ∙ append_assoc (digits 16 count address) (fields mark) rest)
    ∙ value_digits 16 count address _ (omega arith) l.inside

-- no line begins with an address that it does not have
pub other_line : (count address later mark : ℕ) (rest : List ℕ) → address < later → later < 16 ^ count
    → is_line count address (line count later mark ++ rest) ≡ false
unfolding line
other_line count address later mark rest before inside = by (is_line count address (line count later mark ++ rest)) refl
  where
    by : (b : Bool) → is_line count address (line count later mark ++ rest) ≡ b → b ≡ false
    by false h = refl
    by true h =
        let shown = line_address count address (line count later mark ++ rest) h in
        let first = append_assoc (digits 16 count later) (fields mark) rest in
        let same = rw (first, value_digits 16 count later (fields mark ++ rest) (omega arith) inside) at shown in
        absurd (omega arith)

pub no_line : (count address : ℕ) → is_line count address [] ≡ false
no_line count address = by (is_line count address []) refl
  where
    by : (b : Bool) → is_line count address [] ≡ b → b ≡ false
    by false h = refl
    by true h =
        let mark = fields_mark (drop count []) in
        absurd (omega (
          arith,
          length_line count address mark,
          starts_long (line count address mark) [] (line_at count address []
              h).begins,
        ))

-- the lines of later addresses show nothing for an address
later_lines : (count address later : ℕ) (marks : List ℕ) → address < later → later + length marks ≤ 16 ^ count
    → is_line count address (lines count later marks) ≡ false
unfolding lines line_of
later_lines count address later [] before inside = no_line count address
later_lines count address later (mark ∷ marks) before inside =
    by (is_start mark) (later_lines count address (later + 1) marks (omega arith) (omega arith))
  where
    by : (b : Bool) → is_line count address (lines count (later + 1) marks) ≡ false
        → is_line count address (pick b (line count later mark) [] ++ lines count (later + 1) marks) ≡ false
    by true h = other_line count address later mark (lines count (later + 1) marks) before (omega arith)
    by false h = h

-- a line shows its mark for its address
pub own_line : (count address mark : ℕ) (rest : List ℕ) → address < 16 ^ count → is_start mark ≡ true
    → is_formed mark ≡ true → mark_shown count address (line count address mark ++ rest) ≡ mark
unfolding mark_shown is_line line
own_line count address mark rest inside started formed =
    let fit = append_assoc (digits 16 count address) (fields mark) rest in
    let behind = drop_at (digits 16 count address) (fields mark ++ rest) count (length_digits 16 count address) in
    rw (
      fit,
      behind,
      fields_again mark rest started formed,
      lt-ltb address (16 ^ count) inside,
      starts_append (digits 16 count address) (fields mark ++ rest),
      starts_append (fields mark) rest,
      formed,
    )

-- the first mark of lines
first_again : (count address mark : ℕ) (marks : List ℕ) → address + suc (length marks) ≤ 16 ^ count
    → is_formed mark ≡ true
    → mark_shown count address (line_of count address mark ++ lines count (address + 1) marks) ≡ mark
unfolding mark_shown line_of
first_again count address mark marks inside formed = by (formed_mark mark formed)
  where
    by : (mark ≡ 0) ⊎ ((is_start mark ≡ true) × (mark < 128))
        → mark_shown count address (line_of count address mark ++ lines count (address + 1) marks) ≡ mark
    by (inl e) = rw (e, later_lines count address (address + 1) marks (omega arith) (omega arith))
    by (inr s) =
        rw s.0 (own_line count address mark (lines count (address + 1) marks) (omega arith) s.0 formed)

-- the lines of marks show these marks and leave nothing
pub lines_again : (count address : ℕ) (marks : List ℕ) → address + length marks ≤ 16 ^ count
    → ((k : ℕ) → k < length marks → is_formed (get_or marks k 0) ≡ true)
    → (marks_shown count address (length marks) (lines count address marks) ≡ marks)
    × (lines_left count address (length marks) (lines count address marks) ≡ [])
unfolding marks_shown lines_left lines
lines_again count address [] inside formed = (refl, refl)
lines_again count address (mark ∷ marks) inside formed =
    let first = first_again count address mark marks inside (formed 0 (omega arith)) in
    let more = lines count (address + 1) marks in
    let behind = drop_at (line_of count address mark) more (line_size count mark) (length_line_of count address mark) in
    let rest = lines_again count (address + 1) marks (omega arith) (λ k h. formed (suc k) (omega arith)) in
    (rw (first, behind, rest.0), ap (lines_left count (address + 1) (length marks)) (rw first behind) ∙ rest.1)

-- ---- the first line

-- the length's digits are at most five
pub decimal_most : (n : ℕ) → decimal_digits n ≤ digits_of_length
decimal_most n = count_most 10 digits_of_length n

pub length_header : (count : ℕ) (h : Header) → length (header_text count h) ≡ 11 + count + decimal_digits h.length
unfolding header_text
length_header count h = simp (length-append, length_digits) (omega arith)

-- the tab behind the length's digits is the first, since no digit is one
first_tab : (count n : ℕ) (rest : List ℕ) → count ≤ digits_of_length
    → first_from (tab_at (digits 10 count n ++ (tab ∷ rest))) 0 digits_of_length ≡ count
first_tab count n rest few =
    let text = digits 10 count n ++ (tab ∷ rest) in
    let here = get_or_at (digits 10 count n) tab rest 0 count (length_digits 10 count n) in
    first_only (tab_at text) 0 digits_of_length (first_from (tab_at text) 0 digits_of_length) count
    (first_is (tab_at text) 0
    digits_of_length)
    (record {
      at_most = omega arith;
      at_least = omega arith;
      before = λ k low high. ne_eqb (get_or text k 0) tab (λ e. omega (
        arith,
        digits_high 10 count n k high,
        get_or-append (digits 10 count n) (tab ∷ rest) 0 k (omega (arith, length_digits 10 count n)),
      ));
      found = λ _. eq-eqb (get_or text count 0) tab here;
    })

-- an address shows how many digits it has: behind four its field is closed, or goes on with a digit
pub old_shown : (old : Bool) (address close : ℕ) (rest : List ℕ) → close < 48
    → eqb (get_or (digits 16 (digits_by old) address ++ (close ∷ rest)) 4 0) close ≡ old
old_shown true address close rest small =
    eq-eqb (get_or (digits 16 4 address ++ (close ∷ rest)) 4 0) close
    (get_or_at (digits 16 4 address) close rest 0 4 (length_digits 16 4 address))
old_shown false address close rest small =
    let high = digits_high 16 6 address 4 (omega arith) in
    let inside = get_or-append (digits 16 6 address) (close ∷ rest) 0 4 (omega (
      arith,
      length_digits 16 6 address,
    )) in
    ne_eqb (get_or (digits 16 6 address ++ (close ∷ rest)) 4 0) close (λ same. omega (arith, high, inside))

-- a first line shows its fields and how many digits its reset has, whatever follows; of the reset it shows these digits
module _ (old : Bool) (h : Header) (rest : List ℕ) where
  abbrev k : ℕ
  k = decimal_digits h.length

  abbrev field : ℕ → List ℕ
  field count = digits 16 count h.reset ++ (line_end ∷ rest)

  abbrev after_length : List ℕ
  after_length = tab ∷ field (digits_by old)

  abbrev after_base : List ℕ
  after_base = tab ∷ (digits 10 k h.length ++ after_length)

  abbrev text : List ℕ
  text = 0x49 ∷ tab ∷ (digits 16 6 h.base ++ after_base)

  parted : header_text (digits_by old) h ++ rest ≡ text
  unfolding header_text
  parted = simp append_assoc

  at_length : drop 9 text ≡ digits 10 k h.length ++ after_length
  at_length = behind_digits 16 6 h.base 1 after_base

  length_count : length_digits_shown text ≡ k
  unfolding length_digits_shown
  length_count = rw at_length (first_tab k h.length (field (digits_by old)) (decimal_most h.length))

  at_reset : drop (10 + k) text ≡ field (digits_by old)
  at_reset =
      let farther : 10 + k ≡ 9 + (k + 1) = omega arith in
      rw (farther, ← drop-drop (k + 1) 9 text, at_length) (behind_digits 10 k h.length 1 after_length)

  -- behind four digits of the reset the line ends, or goes on with a digit
  behind_four : get_or text (14 + k) 0 ≡ get_or (field (digits_by old)) 4 0
  behind_four =
      let farther : 14 + k ≡ (10 + k) + 4 = omega arith in
      rw (farther, ← get_or-drop (10 + k) text 4 0, at_reset)

  pub count_again : length_digits_shown (header_text (digits_by old) h ++ rest) ≡ k
  count_again = rw parted length_count

  pub old_again : is_old (header_text (digits_by old) h ++ rest) ≡ old
  unfolding is_old
  old_again = rw (parted, length_count, behind_four) (old_shown old h.reset line_end rest (omega arith))

  pub header_again : h.base < 16 ^ 6 → h.length < length_limit
      → header_shown (header_text (digits_by old) h ++ rest)
      ≡ record {
        base = h.base;
        length = h.length;
        reset = whole_reset old h.base (h.reset % 16 ^ digits_by old);
      }
  unfolding header_shown
  header_again based long =
      let count = digits_by old in
      let shown = value_digits 16 count (h.reset % 16 ^ count) (line_end ∷ rest) (omega arith)
      (mod-lt h.reset (one-le-pow count 16 (omega arith))) in
      rw (
        old_again,
        parted,
        at_length,
        length_count,
        at_reset,
        value_digits 16 6 h.base after_base (omega arith) based,
        value_digits 10 k h.length
            after_length (omega arith) (count_enough 10 digits_of_length h.length (omega arith) long),
        rw (digits_low 16 count h.reset (omega arith)) at shown,
      )
