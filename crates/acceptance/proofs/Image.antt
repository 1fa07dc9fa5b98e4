-- What the tests of length, base and reset show, and the count of starts worked from the last mark to the first.
-- Assumes nothing.
use mathlib.Core.Path.{◌≡◌, refl}
use mathlib.Core.Bool.{Bool, true, false, ◌&&◌}
use mathlib.Core.List.{List, [], ◌∷◌}
use Prim.Native.Nat.{ℕ, zero, suc, ◌+◌, ◌-◌, ◌≤◌, ◌<◌}
use native.Mathlib.Omega.{arith}
use borrow.Author.Tests.{ltb-true, ltb-false, leb-true, eqb-true}
use lib.Dec.{eqb, ltb, leb}
use lib.ListN.{length, get_or, drop, get_or-eq_default}
use lib.Seq.{drop-cons}
use Rattle.prelude.specs.Choice.{pick}
use Rattle.types.specs.Addresses.{address_limit, image_limit}
use Rattle.acceptance.specs.Image.{is_start, length_fits, base_fits, mark_at, reset_fits, start_count}
use Rattle.prelude.proofs.Choice.{one_or_none, both_true}

pub record RightLength (image marks : ℕ) : Type 0 where
  pub some : 0 < image
  pub few : image ≤ image_limit
  pub same : marks ≡ image

pub right_length : (image marks : ℕ) → length_fits image marks ≡ true → RightLength image marks
unfolding length_fits
right_length image marks h =
    let outer = both_true (ltb 0 image && leb image image_limit) (eqb marks image) h in
    let inner = both_true (ltb 0 image) (leb image image_limit) outer.0 in
    record {
      some = ltb-true 0 image inner.0;
      few = leb-true image image_limit inner.1;
      same = eqb-true marks image outer.1;
    }

pub base_below : (base n : ℕ) → base_fits base n ≡ true → base < address_limit
unfolding base_fits
base_below base n h =
    ltb-true base address_limit (both_true (ltb base address_limit) (leb (base + n) address_limit) h).0

-- the image ends within the 24-bit addresses
pub base_whole : (base n : ℕ) → base_fits base n ≡ true → base + n ≤ address_limit
unfolding base_fits
base_whole base n h =
    leb-true (base + n) address_limit (both_true (ltb base address_limit) (leb (base + n) address_limit) h).1

-- a reset address with the required start lies in the image
pub reset_inside : (marks : List ℕ) (base reset : ℕ) → reset_fits marks base reset ≡ true → reset < base + length marks
unfolding reset_fits mark_at
reset_inside marks base reset fits =
    by (leb base reset) (ltb (reset - base) (length marks)) refl refl (eqb-true (mark_at marks base reset) 1 fits)
  where
    by : (from below : Bool) → leb base reset ≡ from → ltb (reset - base) (length marks) ≡ below
        → pick from (get_or marks (reset - base) 0) 0 ≡ 1 → reset < base + length marks
    by false below f b e = absurd (omega arith)
    by true true f b e = omega (arith, leb-true base reset f, ltb-true (reset - base) (length marks) b)
    by true false f b e =
        absurd (omega (arith, get_or-eq_default marks 0 (ltb-false (reset - base) (length marks) b)))

-- no more starts than marks
pub starts_most : (marks : List ℕ) → start_count marks ≤ length marks
unfolding start_count
starts_most [] = omega arith
starts_most (mark ∷ marks) = omega (arith, one_or_none (is_start mark), starts_most marks)

-- what is counted of the marks from i on
abbrev pub Counted : List ℕ → ℕ → ℕ → Type 0
Counted marks n i = (i ≤ length marks) × (n ≡ start_count (drop i marks)) × (n + i ≤ length marks)

counted_end : (marks : List ℕ) → 0 ≡ start_count (drop (length marks) marks)
unfolding start_count
counted_end [] = refl
counted_end (b ∷ bs) = counted_end bs

pub none_counted : (marks : List ℕ) → Counted marks 0 (length marks)
none_counted marks = (omega arith, counted_end marks, omega arith)

pub one_more_counted : (marks : List ℕ) (i n k : ℕ) → 0 < i → Counted marks n i
    → k ≡ pick (is_start (get_or marks (i - 1) 0)) 1 0
    → Counted marks (n + k) (i - 1)
unfolding start_count
one_more_counted marks zero n k h c e = absurd (omega arith)
one_more_counted marks (suc j) n k h c e =
    let before : suc j - 1 ≡ j = omega arith in
    let bit : k ≤ 1 = rw e (one_or_none (is_start (get_or marks (suc j - 1) 0))) in
    let here : k ≡ pick (is_start (get_or marks j 0)) 1 0 = rw before at e in
    (omega (arith, c.0), rw (before, drop-cons marks j 0 c.0, c.1, here) (omega arith), omega (arith, c.2))

pub all_counted : (marks : List ℕ) (i n : ℕ) → i ≤ 0 → Counted marks n i → n ≡ start_count marks
all_counted marks zero n h c = c.1
all_counted marks (suc i) n h c = absurd (omega arith)
