-- The first line, written field behind field, and the sums that its places need.
-- Assumes nothing.
use mathlib.Core.Path.{◌≡◌, sym, ap, ◌∙◌}
use mathlib.Core.Bool.{Bool, true, false}
use mathlib.Core.List.{List, [], ◌∷◌, ◌++◌, append_assoc}
use Prim.Native.Nat.{ℕ, ◌+◌, ◌-◌, ◌*◌, ◌^◌, ◌≤◌}
use native.Mathlib.Nat.{pow-le-pow_right}
use native.Mathlib.Omega.{arith}
use lib.ListN.{length, take, drop, set, length-append}
use lib.Seq.{take_at, length-take-le}
use borrow.Rule.Slice.PartMut.{put_mid}
use Rattle.types.specs.declared.lists.Header.{Header}
use Rattle.text.specs.Digits.{digits}
use Rattle.lists.specs.MarkList.{tab, line_end, digits_of_length, decimal_digits, new_digits, digits_by, header_text}
use Rattle.lists.specs.MarkList.{length_digits_shown, tab_at}
use Rattle.prelude.proofs.First.{first_is}
use Rattle.text.proofs.DigitLaws.{length_field}
use Rattle.text.proofs.Pages.{Front, front_next, front_at, two_front}
use Rattle.lists.proofs.MarkList.{decimal_most, length_header}

-- ---- a first line that is read

pub few_digits : (text : List ℕ) → length_digits_shown text ≤ digits_of_length
unfolding length_digits_shown
few_digits text = omega (arith, (first_is (tab_at (drop 9 text)) 0 digits_of_length).at_most)

pub power_small : (k : ℕ) → k ≤ digits_of_length → 255 * 10 ^ k ≤ 4_294_967_295
power_small k few =
    let top : 10 ^ k ≤ 10 ^ digits_of_length = pow-le-pow_right (omega arith) few in
    omega arith

-- no address has more than six digits
pub few_by : (old : Bool) → digits_by old ≤ new_digits
few_by true = omega arith
few_by false = omega arith

pub small_header : (old : Bool) (h : Header) → length (header_text (digits_by old) h) ≤ 22
small_header old h =
    omega (arith, length_header (digits_by old) h, decimal_most h.length, few_by old)

-- a line that begins with the first line
module _ (count : ℕ) (h : Header) (n : ℕ) (line rest : List ℕ) (e : n ≡ length (header_text count h))
    (same : line ≡ header_text count h ++ rest) where
  pub line_long : n ≤ length line
  line_long = omega (arith, e, simp length-append at (ap length same))

  pub line_begin : take n line ≡ header_text count h
  line_begin = ap (take n) same ∙ take_at (header_text count h) rest n (sym e)

  pub begin_long : n ≡ length (take n line)
  begin_long = sym (length-take-le n line line_long)

-- ---- a first line that is written

-- the page after each field, from what the part that was lent got
abbrev lettered : List ℕ → List ℕ
lettered page = set (set page 0 0x49) 1 tab

abbrev put_at : ℕ → List ℕ → List ℕ → List ℕ
put_at n page part = put_mid n (length page - n) page part

-- a part that was lent from a place on got a field in front
abbrev Got : ℕ → ℕ → ℕ → ℕ → ℕ → List ℕ → List ℕ → Type 0
Got radix most n close at page part =
    part ≡ (digits radix most n ++ (close ∷ [])) ++ drop (most + 1) (take (length page - at) (drop at page))

module _ (count : ℕ) (h : Header) (page : List ℕ) (k : ℕ) (e : k ≡ decimal_digits h.length)
    (room : length (header_text count h) ≤ length page) where
  pub header_room : 11 + count + k ≤ length page
  header_room = omega (arith, length_header count h, e)

  pub letter_put : Front page 2 (0x49 ∷ tab ∷ []) (lettered page)
  letter_put = two_front page 0x49 tab (omega (arith, header_room))

  module _ (a : List ℕ) (got-a : Got 16 6 h.base tab 2 (lettered page) a) where
    pub base_put : Front page 9 ((0x49 ∷ tab ∷ []) ++ (digits 16 6 h.base ++ (tab ∷ [])))
        (put_at 2 (lettered page) a)
    base_put = front_next 7 _ a letter_put got-a (length_field 16 6 h.base tab) (omega (arith, header_room))

    module _ (b : List ℕ) (got-b : Got 10 k h.length tab 9 (put_at 2 (lettered page) a) b) where
      pub length_put : Front page (9 + k + 1)
          (((0x49 ∷ tab ∷ []) ++ (digits 16 6 h.base ++ (tab ∷ []))) ++ (digits 10 k h.length ++ (tab ∷ [])))
          (put_at 9 (put_at 2 (lettered page) a) b)
      length_put =
          front_at (9 + k + 1) (omega arith)
          (front_next (k + 1) _ b base_put got-b (length_field 10 k h.length tab) (omega (arith, header_room)))

      module _ (c : List ℕ)
          (got-c : Got 16 count h.reset line_end (9 + k + 1) (put_at 9 (put_at 2 (lettered page) a) b) c) where
        -- the fields joined are the first line
        abbrev joined : List ℕ
        joined =
            (((0x49 ∷ tab ∷ []) ++ (digits 16 6 h.base ++ (tab ∷ []))) ++ (digits 10 k h.length ++ (tab ∷ [])))
            ++ (digits 16 count h.reset ++ (line_end ∷ []))

        joined_is : joined ≡ header_text count h
        unfolding header_text
        joined_is = rw (← e) (simp append_assoc)

        pub reset_put : Front page (9 + k + 1 + (count + 1)) joined
            (put_at (9 + k + 1) (put_at 9 (put_at 2 (lettered page) a) b) c)
        reset_put =
            front_next (count + 1) _ c length_put got-c (length_field 16 count h.reset line_end)
            (omega (arith, header_room))

        pub header_put : put_at (9 + k + 1) (put_at 9 (put_at 2 (lettered page) a) b) c
            ≡ header_text count h ++ drop (length (header_text count h)) page
        header_put =
            let size : 9 + k + 1 + (count + 1) ≡ length (header_text count h) = sym reset_put.long ∙ ap length
            joined_is in
            reset_put.same ∙ ap (◌++ drop (9 + k + 1 + (count + 1)) page) joined_is ∙ ap
            (λ n. header_text count h ++ drop n page) size
