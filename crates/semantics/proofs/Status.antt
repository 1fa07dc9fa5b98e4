-- A status and its number are each other's inverse. A number is its eight low bits, each what a division by 2 leaves,
-- and what is left above them; flags are the bits of a number made of them: a division by 2 takes the lowest away.
-- Assumes nothing.
use mathlib.Core.Path.{◌≡◌, ◌∙◌}
use mathlib.Core.Bool.{Bool, true, false}
use mathlib.Core.List.{List, [], ◌∷◌, ◌++◌}
use Prim.Native.Nat.{ℕ, ◌+◌, ◌*◌, ◌/◌, ◌%◌, ◌^◌, ◌≤◌, ◌<◌}
use native.Mathlib.Nat.{div-add-mod, div-div-eq-div-mul, div-one, mul_comm, pow-suc, pow-zero}
use native.Mathlib.Omega.{arith}
use borrow.Author.Tests.{eq-eqb, ne_eqb}
use lib.Dec.{eqb}
use lib.ListN.{length}
use Rattle.prelude.proofs.Choice.{remainder_bit}
use Rattle.types.specs.declared.machine.Status.{Status}
use Rattle.prelude.specs.Choice.{bit}
use Rattle.types.specs.Status.{status_of, number_of, level_unit}

halved : (n mask : ℕ) → n / mask ≡ n / mask % 2 + 2 * (n / (mask * 2))
halved n mask = omega (arith, div-add-mod (n / mask) 2, div-div-eq-div-mul n mask 2)

-- what each division leaves, and what is left at the end
sum_up : (q r₀ q₁ r₁ q₂ r₂ q₃ r₃ q₄ r₄ q₅ r₅ q₆ r₆ q₇ r₇ q₈ : ℕ) → q ≡ r₀ + 2 * q₁ → q₁ ≡ r₁ + 2 * q₂ → q₂ ≡ r₂ + 2 * q₃
    → q₃ ≡ r₃ + 2 * q₄ → q₄ ≡ r₄ + 2 * q₅ → q₅ ≡ r₅ + 2 * q₆ → q₆ ≡ r₆ + 2 * q₇ → q₇ ≡ r₇ + 2 * q₈
    → 1 * r₀ + 2 * r₁ + 4 * r₂ + 8 * r₃ + 16 * r₄ + 32 * r₅ + 64 * r₆ + 128 * r₇ + 256 * q₈ ≡ q
sum_up q r₀ q₁ r₁ q₂ r₂ q₃ r₃ q₄ r₄ q₅ r₅ q₆ r₆ q₇ r₇ q₈ h₀ h₁ h₂ h₃ h₄ h₅ h₆ h₇ = omega arith

pub status_number : (n : ℕ) → number_of (status_of n) ≡ n
status_number n =
    rw (
      remainder_bit (n / 1),
      remainder_bit (n / 2),
      remainder_bit (n / 4),
      remainder_bit (n / 8),
      remainder_bit (n / 16),
      remainder_bit (n / 32),
      remainder_bit (n / 64),
      remainder_bit (n / 128),
    )
    (sum_up (n / 1) _ _ _ _ _ _ _ _ _ _ _ _ _ _ _ _ (halved n 1) (halved n 2) (halved n 4) (halved n 8) (halved n 16)
    (halved n 32) (halved n 64) (halved n 128) ∙ div-one n)

-- flags as bits, the lowest first, and a number above them
abbrev pub stacked : List Bool → ℕ → ℕ
stacked [] level = level
stacked (f ∷ fs) level = bit f + 2 * stacked fs level

pub without_lowest : (f : Bool) (q : ℕ) → (bit f + 2 * q) / 2 ≡ q
without_lowest true q = omega arith
without_lowest false q = omega arith

pub lowest_bit : (f : Bool) (q : ℕ) → (bit f + 2 * q) % 2 ≡ bit f
lowest_bit true q = omega arith
lowest_bit false q = omega arith

lowest : (f : Bool) (q : ℕ) → eqb ((bit f + 2 * q) % 2) 1 ≡ f
lowest true q = eq-eqb ((1 + 2 * q) % 2) 1 (omega arith)
lowest false q = ne_eqb ((0 + 2 * q) % 2) 1 (λ e. omega arith)

from : (before after : List Bool) (level : ℕ)
    → stacked (before ++ after) level / 2 ^ length before ≡ stacked after level
from [] after level = rw pow-zero (div-one (stacked after level))
from (f ∷ before) after level =
    rw (
      pow-suc 2 (length before),
      mul_comm (2 ^ length before) 2,
      ← div-div-eq-div-mul (bit f + 2 * stacked (before ++ after) level) 2 (2 ^ length before),
      without_lowest f (stacked (before ++ after) level),
    )
    (from before after level)

flag_at : (before : List Bool) (f : Bool) (after : List Bool) (level n : ℕ) → n ≡ stacked (before ++ f ∷ after) level
    → eqb (n / 2 ^ length before % 2) 1 ≡ f
flag_at before f after level n e = rw (e, from before (f ∷ after) level) (lowest f (stacked after level))

-- a status as such a number
abbrev pub flags_of : Status → List Bool
flags_of s =
    s.carry ∷ s.zero ∷ s.disable ∷ s.decimal ∷ s.x ∷ s.m ∷ s.overflow ∷ s.negative ∷ []

pub number_stacked : (s : Status) → number_of s ≡ stacked (flags_of s) s.level
number_stacked s =
    added (bit s.carry) (bit s.zero) (bit s.disable) (bit s.decimal) (bit s.x) (bit s.m)
    (bit s.overflow) (bit s.negative) s.level
  where
    added : (b₀ b₁ b₂ b₃ b₄ b₅ b₆ b₇ l : ℕ)
        → 1 * b₀ + 2 * b₁ + 4 * b₂ + 8 * b₃ + 16 * b₄ + 32 * b₅ + 64 * b₆ + 128 * b₇ + 256 * l
        ≡ b₀ + 2 * (b₁ + 2 * (b₂ + 2 * (b₃ + 2 * (b₄ + 2 * (b₅ + 2 * (b₆ + 2 * (b₇ + 2 * l)))))))
    added b₀ b₁ b₂ b₃ b₄ b₅ b₆ b₇ l = omega arith

pub number_status : (s : Status) → status_of (number_of s) ≡ s
number_status s = λ j. record {
  carry = at [] c (z ∷ i ∷ d ∷ x ∷ m ∷ v ∷ n ∷ []) whole j;
  zero = at (c ∷ []) z (i ∷ d ∷ x ∷ m ∷ v ∷ n ∷ []) whole j;
  disable = at (c ∷ z ∷ []) i (d ∷ x ∷ m ∷ v ∷ n ∷ []) whole j;
  decimal = at (c ∷ z ∷ i ∷ []) d (x ∷ m ∷ v ∷ n ∷ []) whole j;
  x = at (c ∷ z ∷ i ∷ d ∷ []) x (m ∷ v ∷ n ∷ []) whole j;
  m = at (c ∷ z ∷ i ∷ d ∷ x ∷ []) m (v ∷ n ∷ []) whole j;
  overflow = at (c ∷ z ∷ i ∷ d ∷ x ∷ m ∷ []) v (n ∷ []) whole j;
  negative = at (c ∷ z ∷ i ∷ d ∷ x ∷ m ∷ v ∷ []) n [] whole j;
  level = above j;
}
  where
    c : Bool
    c = s.carry

    z : Bool
    z = s.zero

    i : Bool
    i = s.disable

    d : Bool
    d = s.decimal

    x : Bool
    x = s.x

    m : Bool
    m = s.m

    v : Bool
    v = s.overflow

    n : Bool
    n = s.negative

    whole : number_of s ≡ stacked (flags_of s) s.level
    whole = number_stacked s

    at : (before : List Bool) (f : Bool) (after : List Bool) → number_of s ≡ stacked (before ++ f ∷ after) s.level
        → eqb (number_of s / 2 ^ length before % 2) 1 ≡ f
    at before f after = flag_at before f after s.level (number_of s)

    above : number_of s / level_unit ≡ s.level
    above = rw whole (from (c ∷ z ∷ i ∷ d ∷ x ∷ m ∷ v ∷ n ∷ []) [] s.level)

bit_most : (f : Bool) → bit f ≤ 1
bit_most true = omega arith
bit_most false = omega arith

-- a status has 16 bits
pub status_bound : (s : Status) → s.level < 256 → number_of s < 65_536
status_bound s small =
    omega (
      arith,
      bit_most s.carry,
      bit_most s.zero,
      bit_most s.disable,
      bit_most s.decimal,
      bit_most s.x,
      bit_most s.m,
      bit_most s.overflow,
      bit_most s.negative,
    )
