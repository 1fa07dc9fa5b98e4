-- The facts of numbers of n bits, for every n from 1 on.
-- Assumes nothing.
use mathlib.Core.Path.{◌≡◌, refl, sym, ap, ap₂, ◌∙◌}
use mathlib.Core.Logic.{◌⊎◌, inl, inr}
use mathlib.Core.Bool.{Bool, true, false, not, ◌&&◌}
use Prim.Native.Nat.{ℕ, zero, suc, ◌+◌, ◌-◌, ◌*◌, ◌/◌, ◌%◌, ◌^◌, ◌≤◌, ◌<◌}
use native.Mathlib.Nat.{eq-or-lt_of_le, two-pow-succ, pow-suc, add-zero, add-suc, add_assoc, mul-one, mul-mod_left}
use native.Mathlib.Nat.{mul-div_cancel, zero-mod, mod-lt, mod-eq_of_lt, mod_self, suc-mod, mod-eq-sub-mod}
use native.Mathlib.Nat.{add-mod_right, div-add-mod', div-eq_of_lt, div-lt_iff_lt-mul}
use native.Mathlib.Omega.{arith}
use lib.Arith.{digits_lt, digits_div, digits_mod}
use lib.Dec.{ltb, leb}
use lib.IntN.{pos, neg_ℤ, sub_ℕ, ◌+ℤ◌, ◌-ℤ◌}
use lib.Pow.{pow_pos, pow-add}
use lib.Signed.{le_z, lt_z}
use borrow.Author.Tests.{lt-ltb, le-ltb, le-leb, lt-leb, ltb-true, ltb-false, leb-true, leb-false}
use Rattle.prelude.specs.Choice.{pick}
use Rattle.prelude.specs.Choice.{bit}
use Rattle.anywidth.specs.AnyWidth.{AnyWidth, size, half, low, is_negative, sum, difference, signed, is_outside}
use Rattle.anywidth.specs.AnyWidth.{sum_overflows, difference_overflows, decremented, shifted_left, shifted_right}
use Rattle.anywidth.specs.AnyWidth.{is_odd, rotated, value_of, has_value}
use Rattle.prelude.proofs.Choice.{one_or_none}
use Rattle.prelude.proofs.Choice.{bit_not, remainder_bit}
use Rattle.anywidth.proofs.Differences.{leb_same, pos_sub, neg_sub, add_sub, negate_sub, le_sub}

-- ---- over plain numbers
-- a number below two turns is what one turn leaves, and whether it passes one
with_carry_lem : (n s : ℕ) → s < n + n → s % n + bit (leb n s) * n ≡ s
with_carry_lem n s h = by (leb n s) refl
  where
    by : (t : Bool) → leb n s ≡ t → s % n + bit t * n ≡ s
    by true e =
        let past = leb-true n s e in
        rw (mod-eq-sub-mod past, mod-eq_of_lt {n = s - n} {m = n} (omega arith)) (omega arith)
    by false e = rw (mod-eq_of_lt (leb-false n s e)) (omega arith)

-- what is borrowed is what lacks to a whole turn
without_borrow : (n a d t : ℕ) → d + t ≡ a + n → d < n + n → d % n + t ≡ a + bit (not (leb n d)) * n
without_borrow n a d t e h = by (leb n d) refl (with_carry_lem n d h)
  where
    by : (u : Bool) → leb n d ≡ u → d % n + bit u * n ≡ d → d % n + t ≡ a + bit (not u) * n
    by true f whole = omega arith
    by false f whole = omega arith

-- numbers below N turned by a factor: what passes N comes back from below
abbrev turned_by : ℕ → ℕ → ℕ → ℕ
turned_by N p v = v * p % N + v * p / N

by_parts : (N p s v h l : ℕ) → N ≡ s * p → v ≡ h * s + l → h < p → l < s → turned_by N p v ≡ l * p + h
by_parts N p s v h l whole parts few less =
    rw (apart, digits_mod h {m = N} {r = l * p} small, digits_div h {m = N} {r = l * p} small) refl
  where
    apart : v * p ≡ h * N + l * p
    apart = rw (parts, whole) (omega arith)

    small : l * p < N
    small = rw whole (omega (arith, digits_lt {q = l} {m = s} {r = 0} {c = p} less (omega arith)))

-- by twice the factor: the highest bit of what stayed comes below
twice_turned : (N p q v : ℕ) → N ≡ q * (p * 2) → 0 < q → v < N → turned_by N (p * 2) v ≡ turned_by N 2 (turned_by N p v)
twice_turned N p q v whole any h =
    by_parts N (p * 2) q v (v / q) l whole (sym (div-add-mod' v q)) few less
    ∙ omega (arith, div-add-mod' (v / q) 2)
    ∙ sym (ap (turned_by N 2) first ∙ second)
  where
    l : ℕ
    l = v % q

    g : ℕ
    g = v / q / 2

    b : ℕ
    b = v / q % 2

    less : l < q
    less = mod-lt v any

    few : v / q < p * 2
    few = (div-lt_iff_lt-mul {k = q} {x = v} {y = p * 2} any).1 (omega arith)

    fewer : g < p
    fewer = omega (arith, few)

    parts : v ≡ g * (q * 2) + (b * q + l)
    parts = sym (div-add-mod' v q) ∙ ap (λ k. k * q + l) (sym (div-add-mod' (v / q) 2)) ∙ omega arith

    first : turned_by N p v ≡ (b * q + l) * p + g
    first =
        by_parts N p (q * 2) v g (b * q + l) (omega arith) parts fewer
        (omega (arith, digits_lt {q = b} {m = 2} {r = l} {c = q} (omega arith) less))

    second : turned_by N 2 ((b * q + l) * p + g) ≡ (l * p + g) * 2 + b
    second =
        by_parts N 2 (q * p) ((b * q + l) * p + g) b (l * p + g) (omega arith) (omega arith) (omega arith)
        (digits_lt {q = l} {m = q} {r = g} {c = p} less fewer)

module _ (n : ℕ) (some : 0 < n) where
  any : 0 < size n
  any = pow_pos n

  two_halves : size n ≡ half n + half n
  two_halves = by n some
    where
      by : (k : ℕ) → 0 < k → 2 ^ k ≡ 2 ^ (k - 1) + 2 ^ (k - 1)
      by zero h = absurd (omega arith)
      by (suc k) h = let back : suc k - 1 ≡ k = omega arith in rw back (two-pow-succ k)

  -- ---- sums and differences
  borrowed : (a v : ℕ) (carry : Bool) → v < size n → difference n a v carry + (v + bit (not carry)) ≡ a + size n
  borrowed a v carry h = rw (mod-eq_of_lt h) (omega (arith, bit_not carry))

  -- ---- two's complement
  abbrev turn : ℕ → ℕ
  turn v = pick (ltb v (half n)) 0 (size n)

  signed_turn : (v : ℕ) → v < size n → signed n v + turn v ≡ v + half n
  signed_turn v h = by (ltb v (half n)) refl
    where
      by : (t : Bool) → ltb v (half n) ≡ t → signed n v + pick t 0 (size n) ≡ v + half n
      by true e =
          rw (mod-eq_of_lt {n = v + half n} {m = size n} (omega (arith, two_halves, ltb-true v (half n) e)))
          (omega arith)
      by false e =
          let past : size n ≤ v + half n = omega (arith, two_halves, ltb-false v (half n) e) in
          rw (mod-eq-sub-mod past, mod-eq_of_lt {n = v + half n - size n} {m = size n} (omega (arith, two_halves)))
          (omega arith)

  value_sub : (v : ℕ) → value_of n v ≡ sub_ℕ v (turn v)
  value_sub v = by (ltb v (half n))
    where
      by : (t : Bool) → pick t (pos v) (sub_ℕ v (size n)) ≡ sub_ℕ v (pick t 0 (size n))
      by true = pos_sub v
      by false = refl

  outside : (s x y : ℕ) → s + y ≡ x + size n → is_outside n s ≡ not (has_value n (sub_ℕ x y))
  outside s x y e = ap not (ap₂ ◌&&◌ from to)
    where
      from : leb (half n) s ≡ le_z (neg_ℤ (pos (half n))) (sub_ℕ x y)
      from =
          rw (neg_sub (half n), le_sub 0 (half n) x y)
          (leb_same (half n) s (0 + y) (x + half n) (omega (arith, two_halves)))

      to : ltb s (half n + size n) ≡ le_z (sub_ℕ x y) (pos (half n - 1))
      to =
          rw (pos_sub (half n - 1), le_sub x y (half n - 1) 0)
          (leb_same (suc s) (half n + size n) (x + 0) (half n - 1 + y) (omega (arith, two_halves, pow_pos (n - 1))))

  value_sum : (a v k : ℕ) → value_of n a +ℤ value_of n v +ℤ pos k ≡ sub_ℕ (a + v + k) (turn a + turn v + 0)
  value_sum a v k =
      rw (value_sub a, value_sub v, pos_sub k, add_sub a (turn a) v (turn v)) (add_sub (a + v) (turn a + turn v) k 0)

  value_difference : (a v k : ℕ) → value_of n a -ℤ value_of n v -ℤ pos k ≡ sub_ℕ (a + turn v + 0) (turn a + v + k)
  value_difference a v k =
      rw (value_sub a, value_sub v, neg_sub k, negate_sub v (turn v), add_sub a (turn a) (turn v) v)
      (add_sub (a + turn v) (turn a + v) 0 k)

  sum_out : (a v : ℕ) (carry : Bool) → a < size n → v < size n
      → sum_overflows n a v carry ≡ not (has_value n (value_of n a +ℤ value_of n v +ℤ pos (bit carry)))
  sum_out a v carry h k =
      rw (value_sum a v (bit carry))
      (outside (signed n a + signed n v + bit carry) (a + v + bit carry) (turn a + turn v + 0)
      (omega (arith, signed_turn a h, signed_turn v k, two_halves)))

  difference_out : (a v : ℕ) (carry : Bool) → a < size n → v < size n
      → difference_overflows n a v carry ≡ not (has_value n (value_of n a -ℤ value_of n v -ℤ pos (bit (not carry))))
  difference_out a v carry h k =
      rw (value_difference a v (bit (not carry)))
      (outside (signed n a + (size n - 1 - signed n v) + bit carry) (a + turn v + 0) (turn a + v + bit (not carry))
      (omega (arith, signed_turn a h, signed_turn v k, two_halves, bit_not carry, mod-lt (v + half n) any)))

  below_zero : (v : ℕ) → v < size n → is_negative n v ≡ lt_z (value_of n v) (pos 0)
  below_zero v h = by (ltb v (half n)) refl
    where
      by : (t : Bool) → ltb v (half n) ≡ t → is_negative n v ≡ lt_z (pick t (pos v) (sub_ℕ v (size n))) (pos 0)
      by true e = lt-leb (half n) v (ltb-true v (half n) e) ∙ sym (le-ltb v 0 (omega arith))
      by false e = le-leb (half n) v (ltb-false v (half n) e) ∙ rw (lt-ltb v (size n) h) refl

  -- ---- shifts
  top_leaves : (v : ℕ) (below : Bool) → leb (size n) (2 * v + bit below) ≡ is_negative n v
  top_leaves v below = by (is_negative n v) refl
    where
      by : (t : Bool) → is_negative n v ≡ t → leb (size n) (2 * v + bit below) ≡ t
      by true e = le-leb (size n) (2 * v + bit below) (omega (arith, two_halves, leb-true (half n) v e))
      by false e =
          lt-leb (size n) (2 * v + bit below) (omega (arith, two_halves, leb-false (half n) v e, one_or_none below))

  left : (v : ℕ) (below : Bool) → v < size n
      → low n (shifted_left v below) + bit (is_negative n v) * size n ≡ 2 * v + bit below
  left v below h =
      rw (← top_leaves v below) (with_carry_lem (size n) (2 * v + bit below) (omega (arith, one_or_none below)))

  right : (v : ℕ) (above : Bool) → 2 * shifted_right n v above + bit (is_odd v) ≡ v + bit above * size n
  right v true = rw (remainder_bit v) (omega (arith, two_halves))
  right v false = rw (remainder_bit v) (omega arith)

  -- ---- rotations: k % n of a turn, one bit after another
  abbrev spun : ℕ → ℕ → ℕ
  spun r v = turned_by (size n) (2 ^ r) v

  parted : (r : ℕ) → r ≤ n → size n ≡ size (n - r) * 2 ^ r
  parted r h = let whole : n ≡ n - r + r = omega arith in ap size whole ∙ pow-add 2 (n - r) r

  once_more : (r v : ℕ) → r < n → v < size n → spun (suc r) v ≡ spun 1 (spun r v)
  once_more r v h k =
      rw (pow-suc 2 r)
      (twice_turned (size n) (2 ^ r) (size (n - suc r)) v (rw pow-suc at (parted (suc r) h)) (pow_pos (n - suc r)) k)

  not_spun : (v : ℕ) → v < size n → spun 0 v ≡ v
  not_spun v h = rw (mul-one v, mod-eq_of_lt h, div-eq_of_lt h) (omega arith)

  all_spun : (v : ℕ) → spun n v ≡ v
  all_spun v = rw (mul-mod_left v (size n), mul-div_cancel v any) (omega arith)

  one_on : (v k : ℕ) → v < size n → rotated n v (suc k) ≡ spun 1 (rotated n v k)
  one_on v k h = rw (suc-mod k n) (by (eq-or-lt_of_le (mod-lt k some)))
    where
      by : (suc (k % n) ≡ n) ⊎ (suc (k % n) < n) → spun (suc (k % n) % n) v ≡ spun 1 (spun (k % n) v)
      by (inl last) =
          let none : suc (k % n) % n ≡ 0 = ap (λ j. j % n) last ∙ mod_self n in
          rw none
          (not_spun v h ∙ sym (all_spun v) ∙ ap (λ j. spun j v) (sym last) ∙ once_more (k % n) v (mod-lt k some) h)
      by (inr less) = rw (mod-eq_of_lt less) (once_more (k % n) v (mod-lt k some) h)

  stays_below : (v k : ℕ) → v < size n → rotated n v k < size n
  stays_below v k h =
      rw (by_parts (size n) (2 ^ r) q v (v / q) (v % q) whole (sym (div-add-mod' v q)) few less, whole)
      (digits_lt {q = v % q} {m = q} {r = v / q} {c = 2 ^ r} less few)
    where
      r : ℕ
      r = k % n

      q : ℕ
      q = size (n - r)

      whole : size n ≡ q * 2 ^ r
      whole = parted r (let less = mod-lt k some in omega arith)

      less : v % q < q
      less = mod-lt v (pow_pos (n - r))

      few : v / q < 2 ^ r
      few = (div-lt_iff_lt-mul {k = q} {x = v} {y = 2 ^ r} (pow_pos (n - r))).1 (omega (arith, whole))

  added_up : (v j k : ℕ) → v < size n → rotated n (rotated n v j) k ≡ rotated n v (j + k)
  added_up v j zero h = rw (zero-mod n, add-zero j) (not_spun (rotated n v j) (stays_below v j h))
  added_up v j (suc k) h =
      rw (one_on (rotated n v j) k (stays_below v j h), add-suc j k, one_on v (j + k) h)
      (ap (spun 1) (added_up v j k h))

  pub any_width : AnyWidth n
  any_width = record {
    above_kept = λ old v. digits_div (old / size n) (mod-lt v any);
    low_put = λ old v. digits_mod (old / size n) (mod-lt v any);
    sum_whole = λ a v carry h k. with_carry_lem (size n) (sum a v carry) (omega (arith, one_or_none carry));
    no_borrow = λ a v carry h k.
        leb_same (size n) (difference n a v carry) (v + bit (not carry)) a (omega (arith, borrowed a v carry k));
    difference_whole = λ a v carry h k.
        add_assoc (low n (difference n a v carry)) v (bit (not carry))
        ∙ without_borrow (size n) a (difference n a v carry) (v + bit (not carry)) (borrowed a v carry k)
        (omega (arith, borrowed a v carry k));
    negative = below_zero;
    sum_overflow = sum_out;
    difference_overflow = difference_out;
    one_less = λ v.
        let on : decremented n v + 1 ≡ v + size n = omega (arith, any) in rw on (add-mod_right v (size n));
    left_whole = left;
    right_whole = right;
    turned = λ k high below h few less.
        rw (mod-eq_of_lt h)
        (by_parts (size n) (size k) (size (n - k)) _ high below (parted k (omega arith)) refl few less);
    whole_turn = λ v h. rw (mod_self n) (not_spun v h);
    turns_add = added_up;
  }
