-- Whether a number leaves the signed range, by the two tests of the code; and how far a rotation may carry data.
-- Assumes nothing.
use mathlib.Core.Path.{◌≡◌, refl}
use mathlib.Core.Bool.{Bool, true, false, not}
use Prim.Native.Nat.{ℕ, ◌+◌, ◌*◌, ◌%◌, ◌^◌, ◌≤◌, ◌<◌}
use native.Mathlib.Nat.{mul-le-mul, mod-eq_of_lt}
use native.Mathlib.Omega.{arith}
use lib.Dec.{ltb, leb}
use lib.Pow.{pow_mono}
use borrow.Author.Tests.{lt-ltb, le-ltb, le-leb, lt-leb, leb-true, leb-false}
use Rattle.anywidth.specs.AnyWidth.{size, half, is_outside}

pub below_half : (n v : ℕ) → v < half n → true ≡ is_outside n v
below_half n v h = rw (lt-leb (half n) v h) refl

pub from_half : (n v : ℕ) → half n ≤ v → leb (half n + size n) v ≡ is_outside n v
from_half n v h = rw (le-leb (half n) v h) (by (leb (half n + size n) v) refl)
  where
    by : (b : Bool) → leb (half n + size n) v ≡ b → leb (half n + size n) v ≡ not (ltb v (half n + size n))
    by true e = rw (e, le-ltb v (half n + size n) (leb-true (half n + size n) v e)) refl
    by false e = rw (e, lt-ltb v (half n + size n) (leb-false (half n + size n) v e)) refl

pub shifted_bound : (v k : ℕ) → v ≤ 65_535 → k < 16 → v * 2 ^ k ≤ 65_535 * 32_768
shifted_bound v k h h' = mul-le-mul h (pow_mono {i = k} {j = 15} (omega arith))

pub shifted_whole : (v k : ℕ) → v ≤ 65_535 → k < 16
    → (v * 2 ^ k % 18_446_744_073_709_551_616 ≡ v * 2 ^ k) × (v * 2 ^ k % 18_446_744_073_709_551_616 ≤ 65_535 * 32_768)
shifted_whole v k h h' = (whole, rw whole (shifted_bound v k h h'))
  where
    whole : v * 2 ^ k % 18_446_744_073_709_551_616 ≡ v * 2 ^ k
    whole = mod-eq_of_lt (let bound = shifted_bound v k h h' in omega arith)
