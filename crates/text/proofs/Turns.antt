-- One turn of each loop over bytes: a digit read, compared, counted or written, a byte compared or written.
-- Assumes nothing.
use mathlib.Core.Path.{◌≡◌, refl, sym, ◌∙◌}
use mathlib.Core.Bool.{Bool, true, false, ◌&&◌}
use mathlib.Core.List.{List, [], ◌∷◌, ◌++◌}
use Prim.Native.Nat.{ℕ, zero, suc, ◌+◌, ◌-◌, ◌*◌, ◌/◌, ◌%◌, ◌^◌, ◌≤◌, ◌<◌}
use native.Mathlib.Nat.{add-zero, pow-suc, pow-zero, pow-le-pow_right, mul-le-mul_left, mul-le-mul_right}
use native.Mathlib.Numerals.{add-one, unary_clauses}
use native.Mathlib.Omega.{arith}
use borrow.Author.Tests.{ne_eqb, eq-eqb, lt-ltb, le-ltb}
use lib.Dec.{eqb, ltb}
use lib.ListN.{length, get_or, drop, set, length-set}
use lib.Seq.{drop-cons, drop-length, drop-set-lt, get_or-set_same, get_or-drop}
use Rattle.prelude.specs.Choice.{pick}
use Rattle.text.specs.Digits.{digit, digits, digit_value, weighed, value_from_last, digit_count}
use Rattle.text.specs.Text.{starts_with}
use Rattle.text.proofs.DigitLaws.{digit_high, length_digits, last_digit}
use Rattle.text.proofs.Text.{starts_long, starts_join}

and_true : (b : Bool) → (b && true) ≡ b
and_true true = refl
and_true false = refl

pub and_false : (b : Bool) → (b && false) ≡ false
and_false true = refl
and_false false = refl

-- a text that is too short
pub starts_short : (bytes text : List ℕ) → length text < length bytes → starts_with bytes text ≡ false
starts_short bytes text short = by (starts_with bytes text) refl
  where
    by : (b : Bool) → starts_with bytes text ≡ b → b ≡ false
    by false h = refl
    by true h = absurd (omega (arith, starts_long bytes text h))

-- ---- bytes compared from the first on

pub starts_next : (bytes text : List ℕ) (i : ℕ) → i < length bytes → i < length text
    → starts_with (drop i bytes) (drop i text)
    ≡ (eqb (get_or bytes i 0) (get_or text i 0) && starts_with (drop (i + 1) bytes) (drop (i + 1) text))
unfolding starts_with
starts_next bytes text i inside within = rw (drop-cons bytes i 0 inside, drop-cons text i 0 within, add-one i)

pub starts_all : (bytes text : List ℕ) (i : ℕ) → i ≤ length bytes → length bytes ≤ i
    → starts_with (drop i bytes) (drop i text) ≡ true
unfolding starts_with
starts_all bytes text i most least =
    let end : i ≡ length bytes = omega arith in
    rw (end, drop-length bytes)

-- ---- bytes written from the first on

pub put_first : (page : List ℕ) (byte : ℕ) → 0 < length page → set page 0 byte ≡ byte ∷ drop 1 page
put_first [] byte some = absurd (omega arith)
put_first (b ∷ page) byte some = refl

-- ---- digits compared and written from the last on

starts_one : (byte : ℕ) (text : List ℕ) → 0 < byte → starts_with (byte ∷ []) text ≡ eqb byte (get_or text 0 0)
unfolding starts_with
starts_one byte [] some = sym (ne_eqb byte 0 (λ e. omega arith))
starts_one byte (c ∷ text) some = and_true (eqb byte c)

starts_digit : (radix j n : ℕ) (text : List ℕ) → starts_with (digits radix (suc j) n) text
    ≡ (starts_with (digits radix j (n / radix)) text && eqb (digit (n % radix)) (get_or text j 0))
unfolding digits
starts_digit radix j n text =
    rw (
      starts_join (digits radix j (n / radix)) (digit (n % radix) ∷ []) text,
      length_digits radix j (n / radix),
      starts_one (digit (n % radix)) (drop j text) (omega (arith, digit_high (n % radix))),
      get_or-drop j text 0 0,
      add-zero j,
    )

pub other_digit : (radix i n d : ℕ) (text : List ℕ) → 0 < i → d ≡ digit (n % radix) → (get_or text (i - 1) 0 ≡ d → ⊥)
    → starts_with (digits radix i n) text ≡ false
other_digit radix zero n d text some e other = absurd (omega arith)
other_digit radix (suc j) n d text some e other =
    let before : suc j - 1 ≡ j = omega arith in
    rw (
      starts_digit radix j n text,
      ne_eqb (digit (n % radix)) (get_or text j 0) (λ same. other (rw (before, e) (sym
          same))),
    )
    (and_false (starts_with (digits radix j (n / radix)) text))

pub same_digit : (radix i n d : ℕ) (text : List ℕ) → 0 < i → d ≡ digit (n % radix) → get_or text (i - 1) 0 ≡ d
    → starts_with (digits radix i n) text ≡ starts_with (digits radix (i - 1) (n / radix)) text
same_digit radix zero n d text some e same = absurd (omega arith)
same_digit radix (suc j) n d text some e same =
    let before : suc j - 1 ≡ j = omega arith in
    let here : digit (n % radix) ≡ get_or text j 0 = sym e ∙ sym (rw before at same) in
    rw (before, starts_digit radix j n text, eq-eqb (digit (n % radix)) (get_or text j 0) here)
    (and_true (starts_with (digits radix j (n / radix)) text))

pub put_digit : (radix i n d : ℕ) (page whole : List ℕ) → 0 < i → i ≤ length page → d ≡ digit (n % radix)
    → digits radix i n ++ drop i page ≡ whole → digits radix (i - 1) (n / radix) ++ drop (i - 1) (set page (i - 1) d)
    ≡ whole
put_digit radix zero n d page whole some room e all = absurd (omega arith)
put_digit radix (suc j) n d page whole some room e all =
    let before : suc j - 1 ≡ j = omega arith in
    let inside : j < length (set page j d) = rw (length-set page j d) room in
    rw (
      before,
      drop-cons (set page j d) j 0 inside,
      get_or-set_same page j d 0 room,
      drop-set-lt (suc j) page j d (omega arith),
      e,
      ← last_digit radix j n (drop (suc j) page),
    ) all

-- where no digit is left, all agree, and all are written
pub none_other : (radix i n : ℕ) (text : List ℕ) → i ≤ 0 → starts_with (digits radix i n) text ≡ true
unfolding digits starts_with
none_other radix zero n text none = refl
none_other radix (suc i) n text none = absurd (omega arith)

pub none_left : (radix i n : ℕ) (page : List ℕ) → i ≤ 0 → digits radix i n ++ drop i page ≡ page
unfolding digits
none_left radix zero n page none = refl
none_left radix (suc i) n page none = absurd (omega arith)

-- ---- digits worked from the last on

-- with i digits left: what is worked and what is left are the whole value, the weight is that of the next digit, and
-- what is worked is small enough for it
pub record Worked (radix count : ℕ) (text : List ℕ) (v w i : ℕ) : Type 0 where
  pub few : i ≤ count
  pub whole : v + weighed radix w i text ≡ value_from_last radix count text
  pub weight : w * radix ^ i ≡ radix ^ count
  pub small : v + 255 ≤ 255 * w

pub none_worked : (radix count : ℕ) (text : List ℕ) → Worked radix count text 0 1 count
none_worked radix count text =
    record { few = omega arith; whole = omega arith; weight = omega arith; small = omega arith }

-- there is room for the next digit and the next weight
pub room_for_one : {radix count v w i : ℕ} {text : List ℕ} (d : ℕ) → 2 ≤ radix
    → 255 * radix ^ count ≤ 4_294_967_295 → 0 < i → Worked radix count text v w i → d ≤ 255
    → (v + d * w + 255 ≤ 255 * (w * radix)) × (255 * (w * radix) ≤ 4_294_967_295)
room_for_one {radix} {count} {v} {w} {i} d two fits some s byte =
    let most : d * w ≤ 255 * w = mul-le-mul_right w byte in
    let doubled : w * 2 ≤ w * radix = mul-le-mul_left w two in
    let up : radix ^ 1 ≤ radix ^ i = pow-le-pow_right (omega arith) some in
    let scaled : w * radix ^ 1 ≤ w * radix ^ i = mul-le-mul_left w up in
    (omega (arith, s.small), omega (arith, rw (pow-suc radix 0, pow-zero radix) at scaled, s.weight))

pub one_more_worked : {radix count v w i : ℕ} {text : List ℕ} (d : ℕ) → 2 ≤ radix
    → 255 * radix ^ count ≤ 4_294_967_295 → 0 < i → Worked radix count text v w i → d ≤ 255
    → d ≡ digit_value (get_or text (i - 1) 0) → Worked radix count text (v + d * w) (w * radix) (i - 1)
unfolding weighed
one_more_worked {i = zero} d two fits some s byte e = absurd (omega arith)
one_more_worked {radix} {count} {v} {w} {i = suc j} {text = text} d two fits some s byte e =
    let before : suc j - 1 ≡ j = omega arith in
    let whole : v + (digit_value (get_or text j 0) * w + weighed radix (w * radix) j text) ≡ value_from_last radix
    count text
    = s.whole in
    rw before (record {
      few = omega (arith, s.few);
      whole = rw (rw before at e) (omega (arith, whole));
      weight = omega (arith, rw pow-suc at s.weight);
      small = (room_for_one d two fits some s byte).0;
    })

pub all_worked : {radix count v w i : ℕ} {text : List ℕ} → i ≤ 0 → Worked radix count text v w i
    → v ≡ value_from_last radix count text
unfolding weighed
all_worked {i = zero} none s = omega (arith, s.whole)
all_worked {i = suc i} none s = absurd (omega arith)

pub worked_small : {radix count v w i : ℕ} {text : List ℕ} → i ≤ 0 → Worked radix count text v w i
    → v < 255 * radix ^ count
worked_small {radix} {i = zero} none s = omega (arith, s.small, rw (pow-zero radix) at s.weight)
worked_small {i = suc i} none s = absurd (omega arith)

-- ---- digits counted from the last on

-- i digits are counted, and those of the rest come to them
pub record Counted (radix most n i rest : ℕ) : Type 0 where
  pub few : i ≤ most
  pub same : digit_count radix most n ≡ i + digit_count radix (most - i) rest

pub none_counted : (radix most n : ℕ) → Counted radix most n 0 n
none_counted radix most n = record { few = omega arith; same = simp unary_clauses (omega arith) }

-- with one more, for either answer to whether the rest has one digit
one_counted : (radix most n i rest : ℕ) (b : Bool) → i < most → ltb rest radix ≡ b → Counted radix most n i rest
    → digit_count radix most n ≡ i + pick b 1 (suc (digit_count radix (most - (i + 1)) (rest / radix)))
unfolding digit_count
one_counted radix most n i rest b inside e c =
    let left : most - i ≡ suc (most - (i + 1)) = omega arith in
    rw (left, e) at c.same

pub last_counted : (radix most n i rest : ℕ) → i < most → rest < radix → Counted radix most n i rest
    → i + 1 ≡ digit_count radix most n
last_counted radix most n i rest inside small c =
    sym (one_counted radix most n i rest true inside (lt-ltb rest radix small) c)

pub more_counted : (radix most n i rest : ℕ) → i < most → radix ≤ rest → Counted radix most n i rest
    → Counted radix most n (i + 1) (rest / radix)
more_counted radix most n i rest inside large c = record {
  few = omega arith;
  same = one_counted radix most n i rest false inside (le-ltb rest radix large) c ∙ omega arith;
}

pub all_counted : (radix most n i rest : ℕ) → most ≤ i → Counted radix most n i rest → i ≡ digit_count radix most n
unfolding digit_count
all_counted radix most n i rest end c =
    let left : most - i ≡ 0 = omega arith in
    omega (arith, rw left at c.same)
