-- A page read back. A page of rows of one size is read row by row, and a row shows in its columns what it was made of.
-- The bytes of the rows, one behind the other, are the covered ones: going from place to place, the bytes of an
-- instruction that are still to come are covered, no start stands on them, and no earlier instruction goes past them.
-- Assumes nothing.
use mathlib.Core.Path.{◌≡◌, refl, sym, ap, ◌∙◌}
use mathlib.Core.Bool.{Bool, true, false, ◌&&◌}
use mathlib.Core.List.{List, [], ◌∷◌, ◌++◌, append_assoc}
use mathlib.Core.Logic.{◌⊎◌, inl, inr}
use Prim.Native.Nat.{ℕ, zero, suc, ◌+◌, ◌*◌, ◌/◌, ◌^◌, ◌≤◌, ◌<◌}
use native.Mathlib.Nat.{zero-add, eq-or-lt_of_le, le_of_suc-le-suc}
use native.Mathlib.Numerals.{add-one}
use native.Mathlib.Omega.{arith}
use borrow.Author.Tests.{ltb-true, ltb-false, lt-ltb, le-leb, ne_eqb}
use lib.Dec.{ltb, leb}
use lib.ListN.{length, get_or, take, drop, length-append, length-drop, drop_of_length-le, get_or-append}
use lib.Seq.{take_at, drop_at, drop-drop, drop-cons, take-add, length-take-le, slice, slice_empty, slice-cons}
use Rattle.types.specs.declared.code.Entry.{Entry}
use Rattle.prelude.specs.Bytes.{AllBytes}
use Rattle.prelude.specs.Choice.{pick}
use Rattle.prelude.specs.Concat.{concat_from}
use Rattle.prelude.specs.First.{first_from}
use Rattle.prelude.proofs.Bytes.{bytes_take, bytes_drop}
use Rattle.prelude.proofs.Choice.{both_true}
use Rattle.prelude.proofs.Concat.{concat_same, concat_shift}
use Rattle.prelude.proofs.First.{first_is}
use Rattle.text.specs.Digits.{digits, value}
use Rattle.text.proofs.DigitLaws.{length_digits, digits_high, behind_digits, value_digits}
use Rattle.instructions.specs.Words.{syntax_word}
use Rattle.acceptance.specs.Image.{is_start, mark_m, mark_x, is_formed, start_count}
use Rattle.acceptance.specs.Rules.{instruction_at, Accepts}
use Rattle.acceptance.specs.Verdict.{start_at}
use Rattle.lists.specs.MarkList.{bit_shown, kind_shown, line_end}
use Rattle.instructions.specs.Words.{blank, flush_left}
use Rattle.reports.specs.PrintedPage.{row_size, cell_count, cell, cells, row, row_of, row_at, mark_columns, page_text}
use Rattle.reports.specs.PageReading.{bytes_shown, row_bytes, row_start, page_shows, bytes_of, covers, is_covered}
use Rattle.reports.specs.PageReading.{covered_bytes, start_as, starts_shown, PagesTell}
use Rattle.instructions.proofs.CodeMap.{word_at_most}
use Rattle.instructions.proofs.Decode.{decodes, decoded_entry}
use Rattle.acceptance.proofs.Image.{right_length, base_whole}
use Rattle.lists.proofs.MarkList.{each_again}
use Rattle.reports.proofs.PrintedPage.{at_mark, length_row}
use Rattle.acceptance.proofs.Verdict.{start_inside}

-- ---- a page of rows

module _ {A : Type 0} (shows : List ℕ → List A) where
  -- the first row is shown before the others
  shows_more : (row rest : List ℕ) → length row ≡ row_size → page_shows shows (row ++ rest) ≡ shows row ++ page_shows
      shows
      rest
  unfolding page_shows concat_from
  shows_more row rest long = rw rows (rw first (ap (shows row ++◌) later))
    where
      n : ℕ
      n = length rest / row_size

      row_in : List ℕ → ℕ → List A
      row_in page k = shows (take row_size (drop (k * row_size) page))

      rows : length (row ++ rest) / row_size ≡ suc n
      rows = rw (length-append row rest, long) (omega arith)

      first : take row_size (row ++ rest) ≡ row
      first = take_at row rest row_size long

      behind : (k : ℕ) → drop ((k + 1) * row_size) (row ++ rest) ≡ drop (k * row_size) rest
      behind k =
          let farther : (k + 1) * row_size ≡ row_size + k * row_size = omega arith in
          rw (farther, ← drop-drop (k * row_size) row_size (row ++ rest), drop_at row rest row_size long)

      later : concat_from (row_in (row ++ rest)) 1 n ≡ concat_from (row_in rest) 0 n
      later =
          concat_shift (row_in (row ++ rest)) 0 n
          ∙ concat_same (λ k. row_in (row ++ rest) (k + 1)) (row_in rest) 0 n
          (λ k low high. ap (λ page. shows (take row_size page)) (behind k))

  -- rows for the places that pass a test, and nothing for the others, show what each of these rows shows
  page_shows_lem : (test : ℕ → Bool) (rows : ℕ → List ℕ) → ((k : ℕ) → test k ≡ true → length (rows k) ≡ row_size)
      → ((k : ℕ) → test k ≡ false → rows k ≡ []) → (i n : ℕ)
      → page_shows shows (concat_from rows i n) ≡ concat_from (λ k. pick (test k) (shows (rows k)) []) i n
  unfolding concat_from page_shows
  page_shows_lem test rows long none i zero = refl
  page_shows_lem test rows long none i (suc n) = by (test i) refl (page_shows_lem test rows long none (i + 1) n)
    where
      more : List A
      more = concat_from (λ k. pick (test k) (shows (rows k)) []) (i + 1) n

      by : (b : Bool) → test i ≡ b → page_shows shows (concat_from rows (i + 1) n) ≡ more
          → page_shows shows (rows i ++ concat_from rows (i + 1) n) ≡ pick b (shows (rows i)) [] ++ more
      by true h rest =
          shows_more (rows i) (concat_from rows (i + 1) n) (long i h) ∙ ap (shows (rows i) ++◌) rest
      by false h rest = rw (none i h) rest

-- so many rows have so many bytes
page_length : (marks : List ℕ) (rows : ℕ → List ℕ) (i : ℕ)
    → ((k : ℕ) → start_at marks k ≡ true → length (rows (i + k)) ≡ row_size)
    → ((k : ℕ) → start_at marks k ≡ false → rows (i + k) ≡ [])
    → length (concat_from rows i (length marks)) ≡ row_size * start_count marks
unfolding concat_from start_count
page_length [] rows i long none = refl
page_length (mark ∷ marks) rows i long none =
    by (is_start mark) refl
    (page_length marks rows (i + 1) (λ k s. rw (next k) (long (suc k) s)) (λ k s. rw (next k) (none (suc k) s)))
  where
    next : (k : ℕ) → i + 1 + k ≡ i + suc k
    next k = omega arith

    here : i + 0 ≡ i
    here = omega arith

    by : (b : Bool) → is_start mark ≡ b
        → length (concat_from rows (i + 1) (length marks)) ≡ row_size * start_count marks
        → length (rows i ++ concat_from rows (i + 1) (length marks)) ≡ row_size * (pick b 1 0 + start_count marks)
    by true h rest =
        rw length-append (omega (arith, rest, rw here at (long 0 h)))
    by false h rest = rw (rw here at (none 0 h)) (omega (arith, rest))

-- ---- a row

-- a byte's pair is shown before what follows its blank: no digit is a blank
pair_again : (b n : ℕ) (rest : List ℕ) → b < 256
    → bytes_shown (suc n) (digits 16 2 b ++ (blank ∷ rest)) ≡ b ∷ bytes_shown n rest
unfolding bytes_shown
pair_again b n rest small =
    let text = digits 16 2 b ++ (blank ∷ rest) in
    let first = get_or-append (digits 16 2 b) (blank ∷ rest) 0 0 (omega (arith, length_digits 16 2 b)) in
    let high = digits_high 16 2 b 0 (omega arith) in
    rw (
      ne_eqb (get_or text 0 0) blank (λ e. omega (arith, first, high)),
      value_digits 16 2 b (blank ∷ rest) (omega arith) small,
      behind_digits 16 2 b 1 (blank ∷ rest),
    )

-- the cells from one on show the bytes from one on
cells_again : (bytes rest : List ℕ) → AllBytes bytes → (n k : ℕ) → length bytes ≤ k + n
    → bytes_shown n (concat_from (cell bytes) k n ++ rest) ≡ drop k bytes
unfolding bytes_shown concat_from
cells_again bytes rest small zero k long = sym (drop_of_length-le bytes {i = k} (omega arith))
cells_again bytes rest small (suc n) k long =
    by (ltb k (length bytes)) refl (cells_again bytes rest small n (k + 1) (omega arith))
  where
    others : List ℕ
    others = concat_from (cell bytes) (k + 1) n

    by : (t : Bool) → ltb k (length bytes) ≡ t → bytes_shown n (others ++ rest) ≡ drop (k + 1) bytes
        → bytes_shown (suc n) ((cell bytes k ++ others) ++ rest) ≡ drop k bytes
    by true h later =
        let whole = sym (drop-cons bytes k 0 (ltb-true k (length bytes) h)) in
        let shown = pair_again (get_or bytes k 0) n (others ++ rest) (small k) in
        simp (h, append_assoc) (shown ∙ rw (later, add-one) whole)
    by false h later = rw h (sym (drop_of_length-le bytes {i = k} (ltb-false k (length bytes) h)))

-- a row shows what it was made of
module _ (address : ℕ) (bytes : List ℕ) (e : Entry) (mark : ℕ) where
  -- the columns behind the cells
  abbrev behind : List ℕ
  behind = flush_left 4 (syntax_word e) ++ mark_columns mark

  bytes_again : AllBytes bytes → length bytes ≤ cell_count → row_bytes (row address bytes e mark) ≡ bytes
  unfolding row cells
  bytes_again small few =
      rw (behind_digits 16 6 address 1 (blank ∷ (cells bytes ++ behind)))
      (cells_again bytes behind small cell_count 0 (omega arith))

  address_again : address < 16 ^ 6 → value 16 6 (row address bytes e mark) ≡ address
  unfolding row
  address_again inside = value_digits 16 6 address (blank ∷ (cells bytes ++ behind)) (omega arith) inside

  start_again : length (syntax_word e) ≤ 4 → address < 16 ^ 6 → is_start mark ≡ true → is_formed mark ≡ true
      → row_start (row address bytes e mark) ≡ start_as address mark
  start_again short inside started formed =
      let again = each_again mark started formed in
      let at = at_mark address bytes e mark short in
      λ j. record {
        address = address_again inside j;
        m = (ap bit_shown (at 1) ∙ again.m) j;
        x = (ap bit_shown (at 3) ∙ again.x) j;
        kind = (ap kind_shown (at 5) ∙ again.kind) j;
      }

-- ---- the covered bytes

-- what is known of the instructions of an image: no start stands on another's bytes, and which places are covered
record Parted (image : List ℕ) (start covered : ℕ → Bool) (size : ℕ → ℕ) : Type 0 where
  some : (at : ℕ) → start at ≡ true → 1 ≤ size at
  inside : (at : ℕ) → start at ≡ true → at + size at ≤ length image
  alone : (at k : ℕ) → start at ≡ true → at < k → k < at + size at → start k ≡ false
  on : (at k : ℕ) → start at ≡ true → at ≤ k → k < at + size at → covered k ≡ true
  off : (k : ℕ) → ((at : ℕ) → at ≤ k → start at ≡ true → at + size at ≤ k) → covered k ≡ false

module _ (image : List ℕ) (start covered : ℕ → Bool) (size : ℕ → ℕ) (p : Parted image start covered size) where
  -- at a place, with the bytes of the current instruction up to another still to come
  record Between (i end : ℕ) : Type 0 where
    ahead : i ≤ end
    within : end ≤ length image
    clear : (k : ℕ) → i ≤ k → k < end → (start k ≡ false) × (covered k ≡ true)
    ended : (k : ℕ) → k < i → start k ≡ true → k + size k ≤ end

  -- the bytes of the instruction at a place, none where none starts; the byte at a place that is covered
  abbrev instruction : ℕ → List ℕ
  instruction k = pick (start k) (take (size k) (drop k image)) []

  abbrev byte : ℕ → List ℕ
  byte k = pick (covered k) (get_or image k 0 ∷ []) []

  -- the first of the bytes still to come
  one_byte : (i end : ℕ) → i < end → end ≤ length image → slice i end image ≡ get_or image i 0 ∷ slice (i + 1) end image
  one_byte i end before within = rw add-one (slice-cons i end image 0 before within)

  own_bytes_lem : (i : ℕ) → i ≤ length image → take (size i) (drop i image) ≡ slice i (i + size i) image
  own_bytes_lem i inside =
      rw (
        take-add i (size i) image,
        drop_at (take i image) (take (size i) (drop i image)) i (length-take-le i image inside),
      )

  -- one place further on
  one_more : (i end : ℕ) → (start i ≡ true → i + size i ≤ end)
      → ((k : ℕ) → k < i → start k ≡ true → k + size k ≤ end)
      → (k : ℕ) → k < i + 1 → start k ≡ true → k + size k ≤ end
  one_more i end here before k low s = by (eq-or-lt_of_le (le_of_suc-le-suc (rw add-one at low)))
    where
      by : (k ≡ i) ⊎ (k < i) → k + size k ≤ end
      by (inl e) = rw e (here (rw e at s))
      by (inr less) = before k less s

  no_start : (i end : ℕ) → start i ≡ false → start i ≡ true → i + size i ≤ end
  no_start i end none one = let z : ◌≡◌ {A = ℕ} 0 1 = cc in absurd (omega arith)

  -- of n places: the bytes still to come, and those of the instructions behind them, are the covered bytes
  abbrev Joined : ℕ → ℕ → ℕ → Type 0
  Joined i n end = Between i end → slice i end image ++ concat_from instruction i n ≡ concat_from byte i n

  -- one place more, within an instruction
  on_byte_lem : (i n end : ℕ) → i < end → Joined (i + 1) n end → Joined i (suc n) end
  unfolding concat_from
  on_byte_lem i n end before later b =
      let here = b.clear i (omega arith) before in
      rw (here.0, one_byte i end before b.within, here.1)
      (ap (get_or image i 0 ∷◌) (later (record {
        ahead = omega arith;
        within = b.within;
        clear = λ k low high. b.clear k (omega arith) high;
        ended = one_more i end (no_start i end here.0) b.ended;
      })))

  -- one in no instruction
  on_gap : (i n : ℕ) → i < length image → start i ≡ false → Joined (i + 1) n (i + 1) → Joined i (suc n) i
  unfolding concat_from
  on_gap i n inside none later b =
      let before = one_more i i (no_start i i none) b.ended in
      rw (none, slice_empty i image, p.off i (λ at low s. before at (omega arith) s))
      (rw (slice_empty (i + 1) image) at (later (record {
        ahead = omega arith;
        within = omega arith;
        clear = λ k low high. absurd (omega arith);
        ended = λ k low s. omega (arith, before k low s);
      })))

  -- one where an instruction starts
  on_start : (i n : ℕ) → start i ≡ true → Joined (i + 1) n (i + size i) → Joined i (suc n) i
  unfolding concat_from
  on_start i n s later b =
      let some = p.some i s in
      let within = p.inside i s in
      let past = i + size i in
      rw (
        s,
        slice_empty i image,
        own_bytes_lem i (omega arith),
        one_byte i past (omega arith) within,
        p.on i i s (omega arith) (omega arith),
      )
      (ap (get_or image i 0 ∷◌) (later (record {
        ahead = omega arith;
        within = within;
        clear = λ k low high. (p.alone i k s (omega arith) high, p.on i k s (omega arith) high);
        ended = one_more i past (λ _. omega arith) (λ k low t. omega (arith, b.ended k low t));
      })))

  joined : (n i end : ℕ) → i + n ≡ length image → Joined i n end
  unfolding concat_from
  joined zero i end whole b =
      let same : end ≡ i = omega (arith, b.ahead, b.within) in
      rw (same, slice_empty i image)
  joined (suc n) i end whole b =
      by (start i) refl (eq-or-lt_of_le b.ahead) (λ end. joined n (i + 1) end (omega arith))
    where
      by : (s : Bool) → start i ≡ s → (i ≡ end) ⊎ (i < end) → ((end : ℕ) → Joined (i + 1) n end)
          → slice i end image ++ concat_from instruction i (suc n) ≡ concat_from byte i (suc n)
      by s e (inr before) later = on_byte_lem i n end before (later end) b
      by false e (inl same) later = rw (← same) (on_gap i n (omega arith) e (later (i + 1)) (rw (← same) at b))
      by true e (inl same) later = rw (← same) (on_start i n e (later (i + size i)) (rw (← same) at b))

  -- from the first place on, where nothing is to come yet
  all_joined : concat_from instruction 0 (length image) ≡ concat_from byte 0 (length image)
  all_joined = joined (length image) 0 0 (zero-add (length image)) (record {
    ahead = omega arith;
    within = omega arith;
    clear = λ k low high. absurd (omega arith);
    ended = λ k low s. absurd (omega arith);
  })

-- a place is covered where an instruction that starts at or before it goes past it
module _ (image marks : List ℕ) where
  abbrev size : ℕ → ℕ
  size at = bytes_of (instruction_at image marks at)

  module _ (k : ℕ) where
    -- the first start whose instruction does
    abbrev place : ℕ
    place = first_from (covers image marks k) 0 (k + 1)

    covered_on : (at : ℕ) → start_at marks at ≡ true → at ≤ k → k < at + size at → is_covered image marks k ≡ true
    unfolding is_covered
    covered_on at s low high = by (ltb place (k + 1)) refl
      where
        by : (b : Bool) → ltb place (k + 1) ≡ b → b ≡ true
        by true h = refl
        by false h =
            let past = ltb-false place (k + 1) h in
            let none = (first_is (covers image marks k) 0 (k + 1)).before at (omega arith) (omega arith) in
            sym (rw (s, le-leb at k low, lt-ltb k (at + size at) high) at none)

    covered_off : ((at : ℕ) → at ≤ k → start_at marks at ≡ true → at + size at ≤ k) → is_covered image marks k ≡ false
    unfolding is_covered
    covered_off ended = by (ltb place (k + 1)) refl
      where
        by : (b : Bool) → ltb place (k + 1) ≡ b → b ≡ false
        by false h = refl
        by true h =
            let before = ltb-true place (k + 1) h in
            let found = (first_is (covers image marks k) 0 (k + 1)).found (omega arith) in
            let outer = both_true (start_at marks place) (leb place k && ltb k (place + size place)) found in
            let inner = both_true (leb place k) (ltb k (place + size place)) outer.1 in
            let past = ltb-true k (place + size place) inner.1 in
            absurd (omega (arith, ended place (omega arith) outer.0))

-- ---- the page of an accepted image

module _ (image marks : List ℕ) (base reset : ℕ) (a : Accepts image marks base reset) where
  abbrev bytes_at : ℕ → List ℕ
  bytes_at at = take (size image marks at) (drop at image)

  abbrev mark_on : ℕ → ℕ
  mark_on at = get_or marks at 0

  -- the row of a start, and what is known of its instruction
  record Row (at : ℕ) : Type 0 where
    entry : Entry
    same : row_at image marks base at ≡ row (base + at) (bytes_at at) entry (mark_on at)
    short : length (syntax_word entry) ≤ 4
    some : 1 ≤ size image marks at
    few : size image marks at ≤ cell_count
    inside : size image marks at ≤ length (drop at image)
    clear : (k : ℕ) → at < k → k < at + size image marks at → start_at marks k ≡ false

  row_at_lem : (at : ℕ) → start_at marks at ≡ true → Row at
  unfolding row_at row_of
  row_at_lem at s =
      let r = a.at_starts at (start_inside marks at s) s in
      let i = r.instruction in
      let m = mark_m (mark_on at) in
      let x = mark_x (mark_on at) in
      let d = decodes (drop at image) m x i r.whole in
      let long : size image marks at ≡ i.length = rw r.whole in
      record {
        entry = i.entry;
        same = rw (s, r.whole) refl;
        short = rw (decoded_entry (drop at image) m x i r.whole).0 (word_at_most _ _);
        some = rw long d.at_least;
        few = rw long d.at_most;
        inside = rw long d.inside;
        clear = λ k low high. r.no_overlap k low (rw long at high);
      }

  row_long : (at : ℕ) → start_at marks at ≡ true → length (row_at image marks base at) ≡ row_size
  row_long at s = let r = row_at_lem at s in rw r.same (length_row (base + at) _ r.entry (mark_on at) r.short)

  row_closed : (at : ℕ) → start_at marks at ≡ true → get_or (row_at image marks base at) 35 0 ≡ line_end
  row_closed at s = let r = row_at_lem at s in rw r.same (at_mark (base + at) _ r.entry (mark_on at) r.short 6)

  no_row : (at : ℕ) → start_at marks at ≡ false → row_at image marks base at ≡ []
  unfolding row_at
  no_row at s = rw s

  size_is : length (page_text image marks base) ≡ row_size * start_count marks
  unfolding page_text
  size_is =
      page_length marks (row_at image marks base) 0 (λ k s. rw zero-add (row_long k s))
      (λ k s. rw zero-add (no_row k s))

  -- the page shows what its rows show
  shown_by : {A : Type 0} (shows : List ℕ → List A) (what : ℕ → List A)
      → ((at : ℕ) → start_at marks at ≡ true → shows (row_at image marks base at) ≡ what at)
      → page_shows shows (page_text image marks base)
      ≡ concat_from (λ at. pick (start_at marks at) (what at) []) 0 (length marks)
  unfolding page_text
  shown_by {A} shows what each =
      page_shows_lem shows (start_at marks) (row_at image marks base) row_long no_row 0 (length marks)
      ∙ concat_same _ _ 0 (length marks) (λ at low high. by at (start_at marks at) refl)
    where
      by : (at : ℕ) (b : Bool) → start_at marks at ≡ b
          → ◌≡◌ {A = List A} (pick b (shows (row_at image marks base at)) []) (pick b (what at) [])
      by at true s = each at s
      by at false s = refl

  same_length : length marks ≡ length image
  same_length = (right_length (length image) (length marks) a.right_length).same

  start_shown : (at : ℕ) → start_at marks at ≡ true
      → row_start (row_at image marks base at) ≡ start_as (base + at) (mark_on at)
  start_shown at s =
      let r = row_at_lem at s in
      let inside = start_inside marks at s in
      let below = base_whole base (length image) a.right_base in
      rw r.same (start_again (base + at) (bytes_at at) r.entry (mark_on at) r.short
      (omega (arith, same_length)) s (a.formed at inside))

  starts_are : page_shows (λ text. row_start text ∷ []) (page_text image marks base) ≡ starts_shown marks base
  unfolding starts_shown
  starts_are = shown_by (λ text. row_start text ∷ []) (λ at. start_as (base + at) (mark_on at) ∷ [])
      (λ at s. ap (◌∷ []) (start_shown at s))

  bytes_shown_lem : AllBytes image → (at : ℕ) → start_at marks at ≡ true
      → row_bytes (row_at image marks base at) ≡ bytes_at at
  bytes_shown_lem small at s =
      let r = row_at_lem at s in
      let n = size image marks at in
      rw r.same (bytes_again (base + at) (bytes_at at) r.entry (mark_on at)
      (bytes_take n (drop at image) (bytes_drop at image small))
      (rw (length-take-le n (drop at image) r.inside) r.few))

  parted : Parted image (start_at marks) (is_covered image marks) (size image marks)
  parted = record {
    some = λ at s. (row_at_lem at s).some;
    inside = λ at s. omega (
      arith,
      (row_at_lem at s).inside,
      length-drop at image,
      start_inside marks at s,
      same_length,
    );
    alone = λ at k s. (row_at_lem at s).clear k;
    on = λ at k. covered_on image marks k at;
    off = covered_off image marks;
  }

  bytes_are : AllBytes image → page_shows row_bytes (page_text image marks base) ≡ covered_bytes image marks
  unfolding covered_bytes
  bytes_are small =
      shown_by row_bytes bytes_at (bytes_shown_lem small)
      ∙ rw same_length (all_joined image (start_at marks) (is_covered image marks) (size image marks) parted)

-- 02, R-1: what the page of an accepted image tells
pub pages_tell : PagesTell
pages_tell image marks base reset a = record {
  size_of_row = λ at inside. row_long image marks base reset a at;
  row_end = λ at inside. row_closed image marks base reset a at;
  page_size = size_is image marks base reset a;
  bytes = bytes_are image marks base reset a;
  starts = starts_are image marks base reset a;
}
