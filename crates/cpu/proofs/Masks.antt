-- The status register's number with the flags of a mask set or cleared: each flag of an and, an or and an exclusive or
-- is worked out from the two numbers' own, and m and x are not in 207.
-- Assumes nothing.
use Rattle.std.proofs.Common.{◌≡◌, ℕ, zero, suc, ◌/◌, ◌%◌, ◌^◌, ◌<◌, ◌≤◌, Bool, true, false, not, ◌&&◌, ◌||◌, eqb, refl}
use Rattle.std.proofs.Common.{ap, ◌∙◌, mod-lt, arith}
use lib.Bits.{bit_and, bit_or, bit_xor, and_shr, or_shr, xor_shr}
use lib.Bits.{and_mod, or_mod, xor_mod, and_le_l, or_zero_l, xor_zero_l}
use Rattle.semantics.specs.Arithmetic.{with_flags_set, with_flags_cleared}
use Rattle.prelude.specs.Choice.{pick}
use Rattle.types.specs.Status.{is_set, status_of}

-- a flag of two numbers joined digit by digit
module _ (f : ℕ → ℕ → ℕ) (g : Bool → Bool → Bool)
    (same : (eqb (f 0 0) 1 ≡ g false false) × (eqb (f 0 1) 1 ≡ g false true) × (eqb (f 1 0) 1 ≡ g true false)
    × (eqb (f 1 1) 1 ≡ g true true))
    (from : (a b k : ℕ) → f a b / 2 ^ k ≡ f (a / 2 ^ k) (b / 2 ^ k))
    (below : (a b k : ℕ) → f a b % 2 ^ k ≡ f (a % 2 ^ k) (b % 2 ^ k)) where
  digit : (p q : ℕ) → p < 2 → q < 2 → eqb (f p q) 1 ≡ g (eqb p 1) (eqb q 1)
  digit zero zero h h' = same.0
  digit zero (suc zero) h h' = same.1
  digit zero (suc (suc q)) h h' = absurd (omega arith)
  digit (suc zero) zero h h' = same.2
  digit (suc zero) (suc zero) h h' = same.3
  digit (suc zero) (suc (suc q)) h h' = absurd (omega arith)
  digit (suc (suc p)) q h h' = absurd (omega arith)

  flag : (k a b : ℕ) → is_set (2 ^ k) (f a b) ≡ g (is_set (2 ^ k) a) (is_set (2 ^ k) b)
  flag k a b =
      rw (from a b k, below (a / 2 ^ k) (b / 2 ^ k) 1)
      (digit (a / 2 ^ k % 2) (b / 2 ^ k % 2) (mod-lt (a / 2 ^ k) (omega arith)) (mod-lt (b / 2 ^ k) (omega arith)))

or_flag : (k a b : ℕ) → is_set (2 ^ k) (bit_or a b) ≡ (is_set (2 ^ k) a || is_set (2 ^ k) b)
or_flag = flag bit_or ◌||◌ (refl, refl, refl, refl) or_shr or_mod

and_flag : (k a b : ℕ) → is_set (2 ^ k) (bit_and a b) ≡ (is_set (2 ^ k) a && is_set (2 ^ k) b)
and_flag = flag bit_and ◌&&◌ (refl, refl, refl, refl) and_shr and_mod

xor_flag : (k a b : ℕ)
    → is_set (2 ^ k) (bit_xor a b) ≡ pick (is_set (2 ^ k) a) (not (is_set (2 ^ k) b)) (is_set (2 ^ k) b)
xor_flag = flag bit_xor (λ p q. pick p (not q) q) (refl, refl, refl, refl) xor_shr xor_mod

-- a flag is set, or cleared, where the mask has it
dropped : (named flag : Bool) → pick (named && flag) (not flag) flag ≡ (not named && flag)
dropped false flag = refl
dropped true true = refl
dropped true false = refl

set_flag : (k mask n : ℕ) → is_set (2 ^ k) (bit_or (bit_and 207 mask) n)
    ≡ ((is_set (2 ^ k) 207 && is_set (2 ^ k) mask) || is_set (2 ^ k) n)
set_flag k mask n = or_flag k (bit_and 207 mask) n ∙ ap (λ b. b || is_set (2 ^ k) n) (and_flag k 207 mask)

cleared_flag : (k mask n : ℕ) → is_set (2 ^ k) (bit_xor (bit_and (bit_and 207 mask) n) n)
    ≡ (not (is_set (2 ^ k) 207 && is_set (2 ^ k) mask) && is_set (2 ^ k) n)
cleared_flag k mask n =
    xor_flag k (bit_and (bit_and 207 mask) n) n
    ∙ ap (λ b. pick b (not (is_set (2 ^ k) n)) (is_set (2 ^ k) n))
    (and_flag k (bit_and 207 mask) n ∙ ap (λ b. b && is_set (2 ^ k) n) (and_flag k 207 mask))
    ∙ dropped (is_set (2 ^ k) 207 && is_set (2 ^ k) mask) (is_set (2 ^ k) n)

-- what a mask names lies below the level
none_above : (v : ℕ) → v ≤ 207 → v / 256 ≡ 0
none_above v h = omega arith

set_level : (mask n : ℕ) → bit_or (bit_and 207 mask) n / 256 ≡ n / 256
set_level mask n =
    or_shr (bit_and 207 mask) n 8 ∙ rw (none_above (bit_and 207 mask) (and_le_l 207 mask)) (or_zero_l (n / 256))

cleared_level : (mask n : ℕ) → bit_xor (bit_and (bit_and 207 mask) n) n / 256 ≡ n / 256
cleared_level mask n =
    xor_shr (bit_and (bit_and 207 mask) n) n 8
    ∙ rw (none_above (bit_and (bit_and 207 mask) n) (omega (arith, and_le_l (bit_and 207 mask) n, and_le_l 207 mask)))
    (xor_zero_l (n / 256))

pub flags_set : (mask n : ℕ) → status_of (bit_or (bit_and 207 mask) n) ≡ with_flags_set mask (status_of n)
flags_set mask n = λ j. record {
  carry = set_flag 0 mask n j;
  zero = set_flag 1 mask n j;
  disable = set_flag 2 mask n j;
  decimal = set_flag 3 mask n j;
  x = set_flag 4 mask n j;
  m = set_flag 5 mask n j;
  overflow = set_flag 6 mask n j;
  negative = set_flag 7 mask n j;
  level = set_level mask n j;
}

pub flags_cleared : (mask n : ℕ)
    → status_of (bit_xor (bit_and (bit_and 207 mask) n) n) ≡ with_flags_cleared mask (status_of n)
flags_cleared mask n = λ j. record {
  carry = cleared_flag 0 mask n j;
  zero = cleared_flag 1 mask n j;
  disable = cleared_flag 2 mask n j;
  decimal = cleared_flag 3 mask n j;
  x = cleared_flag 4 mask n j;
  m = cleared_flag 5 mask n j;
  overflow = cleared_flag 6 mask n j;
  negative = cleared_flag 7 mask n j;
  level = cleared_level mask n j;
}
