-- Digits and their value, both ways, for any radix and any count: one more digit at the end is one more step of the
-- value. Worked from the last digit, the value is the same.
-- Assumes nothing.
use mathlib.Core.Path.{◌≡◌, refl, sym, ap, ◌∙◌}
use mathlib.Core.Bool.{Bool, true, false}
use mathlib.Core.List.{List, [], ◌∷◌, ◌++◌, append_assoc}
use mathlib.Core.Logic.{◌⊎◌, inl, inr}
use Prim.Native.Nat.{ℕ, zero, suc, ◌+◌, ◌*◌, ◌/◌, ◌%◌, ◌^◌, ◌≤◌, ◌<◌}
use native.Mathlib.Nat.{pow-zero, pow-suc, div-lt_iff_lt-mul, div-add-mod', mul-add-div_right, mul-add-mod_self_right}
use native.Mathlib.Nat.{div-eq_of_lt, mod-eq_of_lt, mod-lt, one-le-pow, le-div_iff_mul-le, eq-or-lt_of_le}
use native.Mathlib.Nat.{le_of_suc-le-suc}
use native.Mathlib.Omega.{arith}
use borrow.Author.Tests.{ltb-true, ltb-false, lt-ltb, le-ltb}
use lib.Arith.{mod-mul}
use lib.Dec.{ltb}
use lib.ListN.{length, get_or, take, drop, length-append, take-append-drop, get_or-append}
use lib.Seq.{get_or_at, take-suc, drop-append-add}
use Rattle.prelude.specs.Choice.{pick}
use Rattle.text.specs.Digits.{digit, digits, digit_value, value, weighed, digit_count}
use Rattle.text.specs.Digits.{SameValue, IsDigit, ShowsValue, ComparedExactly}
use Rattle.text.specs.Text.{starts_with}
use Rattle.text.proofs.Text.{starts_split, starts_append}

pub value_of_digit : (n : ℕ) → digit_value (digit n) ≡ n
unfolding digit digit_value
value_of_digit n = by (ltb n 10) refl
  where
    by : (b : Bool) → ltb n 10 ≡ b → digit_value (pick b (0x30 + n) (0x37 + n)) ≡ n
    by true h = rw (lt-ltb (0x30 + n) 0x3A (omega (arith, ltb-true n 10 h))) (omega arith)
    by false h = rw (le-ltb (0x37 + n) 0x3A (omega (arith, ltb-false n 10 h))) (omega arith)

-- no digit is a byte below that of 0
pub digit_high : (n : ℕ) → 0x30 ≤ digit n
unfolding digit
digit_high n = by (ltb n 10)
  where
    by : (b : Bool) → 0x30 ≤ pick b (0x30 + n) (0x37 + n)
    by true = omega arith
    by false = omega arith

pub length_digits : (radix count n : ℕ) → length (digits radix count n) ≡ count
unfolding digits
length_digits radix zero n = refl
length_digits radix (suc count) n =
    simp length-append (omega (arith, length_digits radix count (n / radix)))

-- the last of the digits stands before what follows them
pub last_digit : (radix count n : ℕ) (rest : List ℕ)
    → digits radix (suc count) n ++ rest ≡ digits radix count (n / radix) ++ (digit (n % radix) ∷ rest)
unfolding digits
last_digit radix count n rest = append_assoc (digits radix count (n / radix)) (digit (n % radix) ∷ []) rest

-- the digits and the byte that closes them
pub length_field : (radix count n close : ℕ) → length (digits radix count n ++ (close ∷ [])) ≡ count + 1
length_field radix count n close =
    length-append (digits radix count n) (close ∷ []) ∙ ap (◌+ 1) (length_digits radix count n)

pub behind_digits : (radix count n k : ℕ) (rest : List ℕ)
    → drop (count + k) (digits radix count n ++ rest) ≡ drop k rest
behind_digits radix count n k rest =
    rw (length_digits radix count n) at (drop-append-add (digits radix count n) rest k)

-- each of the digits is that of a remainder by the radix
digits_each : (P : ℕ → Type 0) (radix : ℕ) → ((k : ℕ) → P (digit (k % radix)))
    → (count n i : ℕ) → i < count → P (get_or (digits radix count n) i 0)
unfolding digits
digits_each P radix all zero n i inside = absurd (omega arith)
digits_each P radix all (suc count) n i inside = by (eq-or-lt_of_le (le_of_suc-le-suc inside))
    (λ below. digits_each P radix all count (n / radix) i below)
  where
    front : List ℕ
    front = digits radix count (n / radix)

    by : (i ≡ count) ⊎ (i < count) → (i < count → P (get_or front i 0))
        → P (get_or (front ++ (digit (n % radix) ∷ [])) i 0)
    by (inl e) earlier =
        rw (e, get_or_at front (digit (n % radix)) [] 0 count (length_digits radix count (n / radix))) (all n)
    by (inr below) earlier =
        rw (get_or-append front (digit (n % radix) ∷ []) 0 i (omega (arith, length_digits radix count (n / radix))))
        (earlier below)

pub digits_high : (radix count n i : ℕ) → i < count → 0x30 ≤ get_or (digits radix count n) i 0
digits_high radix = digits_each (0x30 ≤◌) radix (λ k. digit_high (k % radix))

-- a number with one more digit behind it
one_more : (radix v d : ℕ) → d < radix → ((v * radix + d) / radix ≡ v) × ((v * radix + d) % radix ≡ d)
one_more radix v d small = (
  mul-add-div_right (omega arith) v d ∙ rw (div-eq_of_lt small) (omega arith),
  mul-add-mod_self_right v radix d ∙ mod-eq_of_lt small,
)

-- so many digits are those of the number that is left without the higher ones
pub digits_low : (radix count n : ℕ) → 0 < radix → digits radix count (n % radix ^ count) ≡ digits radix count n
unfolding digits
digits_low radix zero n some = refl
digits_low radix (suc count) n some =
    let q = n / radix % radix ^ count in
    let some_more = one-le-pow count radix some in
    let low : n % radix ^ suc count ≡ q * radix + n % radix = rw pow-suc (mod-mul n some_more some) in
    let parts = one_more radix q (n % radix) (mod-lt n some) in
    rw (low, parts.0, parts.1, digits_low radix count (n / radix) some)

-- what digits show is the number that they are of
pub value_digits : (radix count n : ℕ) (rest : List ℕ) → 0 < radix → n < radix ^ count
    → value radix count (digits radix count n ++ rest) ≡ n
unfolding value
value_digits radix zero n rest some small = omega (arith, pow-zero radix)
value_digits radix (suc count) n rest some small =
    let fewer : n / radix < radix ^ count = (div-lt_iff_lt-mul some).1 (rw pow-suc at small) in
    rw (
      last_digit radix count n rest,
      value_digits radix count (n / radix) (digit (n % radix) ∷ rest) some fewer,
      get_or_at (digits radix count (n / radix)) (digit (n % radix)) rest 0 count
          (length_digits radix count (n / radix)),
      value_of_digit (n % radix),
    ) (div-add-mod' n radix)

-- the digits of what digits show are those digits
pub digits_value : (radix count : ℕ) (text : List ℕ) → count ≤ length text
    → ((i : ℕ) → i < count → IsDigit radix (get_or text i 0)) → digits radix count (value radix count text) ≡ take count
    text
unfolding digits value
digits_value radix zero text long all = refl
digits_value radix (suc count) text long all =
    let last = all count (omega arith) in
    let parts = one_more radix (value radix count text) (digit_value (get_or text count 0)) last.small in
    rw (
      parts.0,
      parts.1,
      last.same,
      take-suc text count 0 long,
      digits_value radix count text (omega arith) (λ i h. all i (omega arith)),
    )

-- ---- digits worked from the last

-- a weight is a factor of the whole: the digits before the last one have it times the radix, and their value takes the
-- radix there
weighed_value : (radix weight count : ℕ) (text : List ℕ)
    → weighed radix weight count text ≡ weight * value radix count text
unfolding weighed value
weighed_value radix weight zero text = omega arith
weighed_value radix weight (suc count) text =
    omega (arith, weighed_value radix (weight * radix) count text)

pub same_value : SameValue
same_value radix count text = weighed_value radix 1 count text ∙ omega arith

-- a digit that is below the radix is one of it
small_digit : (radix n : ℕ) → n < radix → IsDigit radix (digit n)
small_digit radix n small = record { small = rw (value_of_digit n) small; same = ap digit (value_of_digit n) }

-- a text that begins with digits shows their value
begun_shows : (radix count n : ℕ) (rest : List ℕ) → 0 < radix
    → ShowsValue radix count (n % radix ^ count) (digits radix count n ++ rest)
begun_shows radix count n rest some = record {
  long = rw (length-append (digits radix count n) rest, length_digits radix count n) (omega arith);
  all = λ i inside. rw
      (get_or-append (digits radix count n) rest 0 i (omega (arith, length_digits radix count n)))
      (digits_each (IsDigit radix) radix (λ k. small_digit radix (k % radix) (mod-lt k some)) count n i inside);
  worked = same_value radix count (digits radix count n ++ rest) ∙ rw (← digits_low radix count n some)
      (value_digits radix count (n % radix ^ count) rest some (mod-lt n (one-le-pow count radix some)));
}

-- the number's last digits are those of the value, which are the field's bytes
pub compared_exactly : ComparedExactly
compared_exactly radix count n text some = (shown, compared)
  where
    shown : starts_with (digits radix count n) text ≡ true → ShowsValue radix count (n % radix ^ count) text
    shown h =
        rw (← starts_split (digits radix count n) text h) at
        (begun_shows radix count n (drop (length (digits radix count n)) text) some)

    compared : ShowsValue radix count (n % radix ^ count) text → starts_with (digits radix count n) text ≡ true
    compared s =
        let field : digits radix count n ≡ take count text =
        sym (digits_low radix count n some)
        ∙ ap (digits radix count) (sym s.worked ∙ same_value radix count text)
        ∙ digits_value radix count text s.long s.all in
        rw field (rw (take-append-drop count text) at (starts_append (take count text) (drop count text)))

-- ---- how many digits a number has

pub count_most : (radix most n : ℕ) → digit_count radix most n ≤ most
unfolding digit_count
count_most radix zero n = omega arith
count_most radix (suc most) n = by (ltb n radix) (count_most radix most (n / radix))
  where
    by : (b : Bool) → digit_count radix most (n / radix) ≤ most
        → pick b 1 (suc (digit_count radix most (n / radix))) ≤ suc most
    by true few = omega arith
    by false few = omega arith

-- they are enough for the number, if the most are
pub count_enough : (radix most n : ℕ) → 0 < radix → n < radix ^ most → n < radix ^ digit_count radix most n
unfolding digit_count
count_enough radix zero n some small = small
count_enough radix (suc most) n some small =
    by (ltb n radix) refl
    (count_enough radix most (n / radix) some ((div-lt_iff_lt-mul some).1 (rw pow-suc at small)))
  where
    by : (b : Bool) → ltb n radix ≡ b → n / radix < radix ^ digit_count radix most (n / radix)
        → n < radix ^ pick b 1 (suc (digit_count radix most (n / radix)))
    by true h fewer = rw (pow-suc radix 0, pow-zero radix) (omega (arith, ltb-true n radix h))
    by false h fewer = rw pow-suc ((div-lt_iff_lt-mul some).0 fewer)

-- and the first of several is not 0
pub count_least : (radix most n k : ℕ) → 0 < radix → digit_count radix most n ≡ suc (suc k) → radix ^ suc k ≤ n
unfolding digit_count
count_least radix zero n k some e = absurd (omega arith)
count_least radix (suc most) n k some e =
    by (ltb n radix) k refl e (λ k. count_least radix most (n / radix) k some)
  where
    by : (b : Bool) (k : ℕ) → ltb n radix ≡ b
        → pick b 1 (suc (digit_count radix most (n / radix))) ≡ suc (suc k)
        → ((k : ℕ) → digit_count radix most (n / radix) ≡ suc (suc k) → radix ^ suc k ≤ n / radix) → radix ^ suc k ≤ n
    by true k h e fewer = absurd (omega arith)
    by false zero h e fewer = rw (pow-suc radix 0, pow-zero radix) (omega (arith, ltb-false n radix h))
    by false (suc k) h e fewer = rw pow-suc ((le-div_iff_mul-le some).0 (fewer k (omega (arith, e))))
