-- Numbers as digits in any radix, the highest digit first.
-- Assumes nothing.
use Rattle.std.specs.Prelude.{◌≡◌, true, ◌↔◌, ℕ, zero, suc, ◌+◌, ◌-◌, ◌*◌, ◌/◌, ◌%◌, ◌^◌, ◌≤◌, ◌<◌, List, []}
use Rattle.std.specs.Prelude.{◌∷◌, ◌++◌, ltb, length, get_or}
use Rattle.prelude.specs.Choice.{pick}
use Rattle.text.specs.Text.{starts_with}

-- a digit: 0 to 9, then the capitals from A on
unfoldable pub digit : ℕ → ℕ
digit n = pick (ltb n 10) (0x30 + n) (0x37 + n)

-- the last digits of a number, so many, the highest first
unfoldable pub digits : ℕ → ℕ → ℕ → List ℕ
digits radix zero n = []
digits radix (suc count) n = digits radix count (n / radix) ++ (digit (n % radix) ∷ [])

-- the value of a byte as a digit. That of another byte is a number too: from A on each byte is the digit of its value,
-- in a radix that is large enough (47, a G, has 16), below A it is 0 to 9. That a text shows digits of a radix is
-- therefore asked by `starts_with`: each of `digits` is that of a remainder by the radix.
unfoldable pub digit_value : ℕ → ℕ
digit_value byte = pick (ltb byte 0x3A) (byte - 0x30) (byte - 0x37)

-- the number that the first bytes of a text, so many, show, by 'working from the first' (R-2): the value of the digits
-- before, times the radix, and the next digit
unfoldable pub value : ℕ → ℕ → List ℕ → ℕ
value radix zero text = 0
value radix (suc count) text = value radix count text * radix + digit_value (get_or text count 0)

-- the same 'worked from the last digit to the first' (R-2): each digit times its weight, which is 1 for the last, and
-- for the digit before it the radix times as much
unfoldable pub weighed : ℕ → ℕ → ℕ → List ℕ → ℕ
weighed radix weight zero text = 0
weighed radix weight (suc count) text =
    digit_value (get_or text count 0) * weight + weighed radix (weight * radix) count text

abbrev pub value_from_last : ℕ → ℕ → List ℕ → ℕ
value_from_last radix count text = weighed radix 1 count text

-- R-2: 'for any number of digits, to have the value that working from the first gives'; in any radix
abbrev pub SameValue : Type 0
SameValue = (radix count : ℕ) (text : List ℕ) → value_from_last radix count text ≡ value radix count text

-- a byte that is a digit of a radix: the digit of its value, which is below the radix
pub record IsDigit (radix byte : ℕ) : Type 0 where
  pub small : digit_value byte < radix
  pub same : digit (digit_value byte) ≡ byte

-- the first bytes of a text, so many, are digits of a radix, and worked from the last they have this value
pub record ShowsValue (radix count v : ℕ) (text : List ℕ) : Type 0 where
  pub long : count ≤ length text
  pub all : (i : ℕ) → i < count → IsDigit radix (get_or text i 0)
  pub worked : value_from_last radix count text ≡ v

-- R-2, of a field that is compared with the digits of an expected number (an address): they agree exactly where the
-- field shows that number, as much of it as so many digits hold
abbrev pub ComparedExactly : Type 0
ComparedExactly =
    (radix count n : ℕ) (text : List ℕ) → 0 < radix
    → (starts_with (digits radix count n) text ≡ true) ↔ ShowsValue radix count (n % radix ^ count) text

-- how many digits a number has without a leading zero, at most so many
unfoldable pub digit_count : ℕ → ℕ → ℕ → ℕ
digit_count radix zero n = 0
digit_count radix (suc most) n = pick (ltb n radix) 1 (suc (digit_count radix most (n / radix)))
