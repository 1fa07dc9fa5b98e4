-- A choice keeps a bound that both sides keep; tests as numbers; two tests that both hold.
-- Assumes nothing.
use mathlib.Core.Path.{◌≡◌, refl}
use mathlib.Core.Bool.{Bool, true, false, not, ◌&&◌}
use Prim.Native.Nat.{ℕ, zero, suc, ◌+◌, ◌%◌, ◌≤◌, ◌<◌}
use native.Mathlib.Nat.{mod-lt}
use native.Mathlib.Omega.{arith}
use lib.Dec.{eqb}
use Rattle.prelude.specs.Choice.{pick, bit}

pub one_of : (b : Bool) (k n : ℕ) → k ≤ 1 → n ≤ 1 → pick b k n ≤ 1
one_of true k n h h' = h
one_of false k n h h' = h'

pub one_or_none : (b : Bool) → pick b 1 0 ≤ 1
one_or_none b = one_of b 1 0 (omega arith) (omega arith)

pub bit_not : (f : Bool) → bit f + bit (not f) ≡ 1
bit_not true = refl
bit_not false = refl

pub remainder_bit : (k : ℕ) → bit (eqb (k % 2) 1) ≡ k % 2
remainder_bit k = small (k % 2) (mod-lt k (omega arith))
  where
    small : (r : ℕ) → r < 2 → bit (eqb r 1) ≡ r
    small zero h = refl
    small (suc zero) h = refl
    small (suc (suc r)) h = absurd (omega arith)

pub both_true : (a b : Bool) → a && b ≡ true → (a ≡ true) × (b ≡ true)
both_true true b h = (refl, h)
both_true false b h = let z : ◌≡◌ {A = ℕ} 0 1 = cc in absurd (omega arith)
