-- Integers as differences of two numbers: their sums, signs and order are those of the numbers.
-- Assumes nothing.
use mathlib.Core.Path.{◌≡◌, refl, sym, ap, ◌∙◌}
use mathlib.Core.Bool.{Bool, true, false}
use Prim.Native.Nat.{ℕ, zero, suc, ◌+◌, ◌-◌}
use native.Mathlib.Omega.{arith}
use lib.Dec.{ltb, leb}
use lib.IntN.{pos, negsuc, neg_ℤ, sub_ℕ, ◌+ℤ◌}
use lib.Signed.{le_z}
use borrow.Author.Tests.{lt-ltb, le-ltb, le-leb, lt-leb, ltb-true, ltb-false, leb-true, leb-false}

-- numbers that are as far apart compare alike
pub leb_same : (a b c d : ℕ) → a + d ≡ c + b → leb a b ≡ leb c d
leb_same a b c d same = by (leb a b) refl
  where
    by : (t : Bool) → leb a b ≡ t → t ≡ leb c d
    by true e = sym (le-leb c d (omega (arith, leb-true)))
    by false e = sym (lt-leb c d (omega (arith, leb-false)))

sub_same : (a b c d : ℕ) → a + d ≡ c + b → sub_ℕ a b ≡ sub_ℕ c d
sub_same a b c d same = by (ltb a b) refl
  where
    by : (t : Bool) → ltb a b ≡ t → sub_ℕ a b ≡ sub_ℕ c d
    by true e = rw (e, lt-ltb c d (omega (arith, ltb-true))) (ap negsuc (omega (arith, ltb-true)))
    by false e = rw (e, le-ltb c d (omega (arith, ltb-false))) (ap pos (omega (arith, ltb-false)))

pub pos_sub : (k : ℕ) → pos k ≡ sub_ℕ k 0
pos_sub k = rw (le-ltb k 0 (omega arith)) (ap pos (omega arith))

pub neg_sub : (k : ℕ) → neg_ℤ (pos k) ≡ sub_ℕ 0 k
neg_sub zero = refl
neg_sub (suc k) = rw (lt-ltb 0 (suc k) (omega arith)) (ap negsuc (omega arith))

pub negate_sub : (a b : ℕ) → neg_ℤ (sub_ℕ a b) ≡ sub_ℕ b a
negate_sub a b = by (ltb a b) refl
  where
    by : (t : Bool) → ltb a b ≡ t → neg_ℤ (sub_ℕ a b) ≡ sub_ℕ b a
    by true e = rw (e, le-ltb b a (omega (arith, ltb-true))) (ap pos (omega (arith, ltb-true)))
    by false e = rw e (neg_sub (a - b) ∙ sub_same 0 (a - b) b a (omega (arith, ltb-false)))

pub add_sub : (a b c d : ℕ) → sub_ℕ a b +ℤ sub_ℕ c d ≡ sub_ℕ (a + c) (b + d)
add_sub a b c d = by (ltb a b) refl (ltb c d) refl
  where
    by : (t : Bool) → ltb a b ≡ t → (u : Bool) → ltb c d ≡ u → sub_ℕ a b +ℤ sub_ℕ c d ≡ sub_ℕ (a + c) (b + d)
    by true e true f =
        rw (e, f, lt-ltb (a + c) (b + d) (omega (arith, ltb-true))) (ap negsuc (omega (arith, ltb-true)))
    by true e false f =
        rw (e, f) (sub_same (c - d) (suc (b - suc a)) (a + c) (b + d) (omega (arith, ltb-true, ltb-false)))
    by false e true f =
        rw (e, f) (sub_same (a - b) (suc (d - suc c)) (a + c) (b + d) (omega (arith, ltb-true, ltb-false)))
    by false e false f =
        rw (e, f, le-ltb (a + c) (b + d) (omega (arith, ltb-false))) (ap pos (omega (arith, ltb-false)))

pub le_sub : (a b c d : ℕ) → le_z (sub_ℕ a b) (sub_ℕ c d) ≡ leb (a + d) (c + b)
le_sub a b c d = by (ltb a b) refl (ltb c d) refl
  where
    by : (t : Bool) → ltb a b ≡ t → (u : Bool) → ltb c d ≡ u → le_z (sub_ℕ a b) (sub_ℕ c d) ≡ leb (a + d) (c + b)
    by true e true f = rw (e, f) (leb_same (d - suc c) (b - suc a) (a + d) (c + b) (omega (arith, ltb-true)))
    by true e false f = rw (e, f) (sym (le-leb (a + d) (c + b) (omega (arith, ltb-true, ltb-false))))
    by false e true f = rw (e, f) (sym (lt-leb (a + d) (c + b) (omega (arith, ltb-true, ltb-false))))
    by false e false f = rw (e, f) (leb_same (a - b) (c - d) (a + d) (c + b) (omega (arith, ltb-false)))
