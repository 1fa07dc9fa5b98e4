-- Numbers of n bits, for any n: what operations make of them, their flags, and the facts about both. Manual 4.2, an
-- instruction's 'Operation' and 'Status flags'; 01, 'Facts about 8 and 16 bits are shown for any width'.
-- Assumes nothing.
use Rattle.std.specs.Prelude.{◌≡◌, ℕ, ◌+◌, ◌-◌, ◌*◌, ◌/◌, ◌%◌, ◌^◌, ◌<◌, Bool, not, ◌&&◌, eqb, ltb, leb, ℤ, pos, neg_ℤ}
use Rattle.std.specs.Prelude.{◌+ℤ◌, ◌-ℤ◌}
use Rattle.std.specs.Int.Bits.{bit_and}
use Rattle.std.proofs.Math.IntN.{sub_ℕ}
use Rattle.std.specs.Int.Signed.{le_z, lt_z}
use Rattle.prelude.specs.Choice.{pick}
use Rattle.prelude.specs.Choice.{bit}

-- how many numbers n bits can be, and half of them: those from there on have the sign bit
abbrev pub size : ℕ → ℕ
size n = 2 ^ n

abbrev pub half : ℕ → ℕ
half n = 2 ^ (n - 1)

-- the part of a number that n bits hold
abbrev pub low : ℕ → ℕ → ℕ
low n v = v % size n

-- a number with its low n bits put anew
abbrev pub merged : ℕ → ℕ → ℕ → ℕ
merged n old v = old / size n * size n + low n v

-- the sign bit, the highest of n bits
abbrev pub is_negative : ℕ → ℕ → Bool
is_negative n v = leb (half n) v

-- ---- addition and subtraction
-- 'Acc, C ← Acc + M + C'
abbrev pub sum : ℕ → ℕ → Bool → ℕ
sum a v carry = a + v + bit carry

-- what a number of n bits lacks to the highest
abbrev pub complement : ℕ → ℕ → ℕ
complement n v = size n - 1 - v

-- 'Acc, C ← Acc - M - not C', above 0 by a whole turn of the width
abbrev pub difference : ℕ → ℕ → ℕ → Bool → ℕ
difference n a v carry = a + complement n (low n v) + bit carry

-- C: a sum passes the width's numbers, a difference is not below 0
abbrev pub is_past : ℕ → ℕ → Bool
is_past n v = leb (size n) v

-- V: 'binary addition of signed data result in a value outside the range of -32768 to +32767 (-128 to +127 ..)'; data
-- is counted from the lowest signed number on
abbrev pub signed : ℕ → ℕ → ℕ
signed n v = (v + half n) % size n

abbrev pub is_outside : ℕ → ℕ → Bool
is_outside n v = not (leb (half n) v && ltb v (half n + size n))

abbrev pub sum_overflows : ℕ → ℕ → ℕ → Bool → Bool
sum_overflows n a v carry = is_outside n (signed n a + signed n v + bit carry)

abbrev pub difference_overflows : ℕ → ℕ → ℕ → Bool → Bool
difference_overflows n a v carry = is_outside n (signed n a + complement n (signed n v) + bit carry)

-- one less, above 0 by a whole turn
abbrev pub decremented : ℕ → ℕ → ℕ
decremented n v = v + size n - 1

-- the bits of data that a mask leaves
abbrev pub cleared_by : ℕ → ℕ → ℕ → ℕ
cleared_by n mask v = bit_and v (complement n (low n mask))

-- ---- shifts by one bit, with the bit that comes in, and rotation
abbrev pub shifted_left : ℕ → Bool → ℕ
shifted_left v below = 2 * v + bit below

-- a bit as the highest of n
abbrev pub top_bit : ℕ → Bool → ℕ
top_bit n flag = pick flag (half n) 0

abbrev pub shifted_right : ℕ → ℕ → Bool → ℕ
shifted_right n v above = v / 2 + top_bit n above

abbrev pub is_odd : ℕ → Bool
is_odd v = eqb (v % 2) 1

-- RLA: 'rotate n bits to left', through no flag
abbrev pub rotated : ℕ → ℕ → ℕ → ℕ
rotated n v k = v * 2 ^ (k % n) % size n + v * 2 ^ (k % n) / size n

-- ---- the facts
-- the two's complement value of n bits, and whether n bits can have a value: -2^(n-1) to 2^(n-1) - 1
abbrev pub value_of : ℕ → ℕ → ℤ
value_of n v = pick (ltb v (half n)) (pos v) (sub_ℕ v (size n))

abbrev pub has_value : ℕ → ℤ → Bool
has_value n z = le_z (neg_ℤ (pos (half n))) z && le_z z (pos (half n - 1))

-- What is shown of numbers of n bits, for every n above 0 (proofs/AnyWidth, `any_width`).
pub record AnyWidth (n : ℕ) : Type 0 where
  -- merging keeps what lies above n bits and puts the low n bits
  pub above_kept : (old v : ℕ) → merged n old v / size n ≡ old / size n
  pub low_put : (old v : ℕ) → low n (merged n old v) ≡ low n v
  -- a sum is its result and C: C is 1 exactly where it does not fit n bits
  pub sum_whole : (a v : ℕ) (carry : Bool) → a < size n → v < size n
      → low n (sum a v carry) + bit (is_past n (sum a v carry)) * size n ≡ a + v + bit carry
  -- a difference has C exactly where nothing is borrowed; with what is borrowed its result is right
  pub no_borrow : (a v : ℕ) (carry : Bool) → a < size n → v < size n
      → is_past n (difference n a v carry) ≡ leb (v + bit (not carry)) a
  pub difference_whole : (a v : ℕ) (carry : Bool) → a < size n → v < size n
      → low n (difference n a v carry) + v + bit (not carry)
      ≡ a + bit (not (is_past n (difference n a v carry))) * size n
  -- N and V by two's complement values: a value below 0; a sum or difference that n bits can't have
  pub negative : (v : ℕ) → v < size n → is_negative n v ≡ lt_z (value_of n v) (pos 0)
  pub sum_overflow : (a v : ℕ) (carry : Bool) → a < size n → v < size n
      → sum_overflows n a v carry ≡ not (has_value n (value_of n a +ℤ value_of n v +ℤ pos (bit carry)))
  pub difference_overflow : (a v : ℕ) (carry : Bool) → a < size n → v < size n
      → difference_overflows n a v carry ≡ not (has_value n (value_of n a -ℤ value_of n v -ℤ pos (bit (not carry))))
  -- one less and one more is nothing
  pub one_less : (v : ℕ) → low n (decremented n v + 1) ≡ low n v
  -- a shifted number is its result and C, the bit that leaves: ASL and ROL, LSR and ROR
  pub left_whole : (v : ℕ) (below : Bool) → v < size n
      → low n (shifted_left v below) + bit (is_negative n v) * size n ≡ 2 * v + bit below
  pub right_whole : (v : ℕ) (above : Bool) → 2 * shifted_right n v above + bit (is_odd v) ≡ v + bit above * size n
  -- a rotation brings the high k bits below the others; a whole turn is nothing; rotations add up
  pub turned : (k high below : ℕ) → k < n → high < size k → below < size (n - k)
      → rotated n (high * size (n - k) + below) k ≡ below * size k + high
  pub whole_turn : (v : ℕ) → v < size n → rotated n v n ≡ v
  pub turns_add : (v j k : ℕ) → v < size n → rotated n (rotated n v j) k ≡ rotated n v (j + k)
