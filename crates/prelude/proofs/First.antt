-- The lowest place where a test holds: no place before it passes the test, and it passes itself unless it is the end.
-- The highest likewise: no place behind it passes the test.
-- Assumes nothing.
use mathlib.Core.Path.{◌≡◌, refl, sym, subst, ◌∙◌}
use mathlib.Core.Logic.{◌⊎◌, inl, inr}
use mathlib.Core.Bool.{Bool, true, false}
use Prim.Native.Nat.{ℕ, zero, suc, ◌+◌, ◌≤◌, ◌<◌}
use native.Mathlib.Nat.{eq-or-lt_of_le, le_antisymm, le_of_suc-le-suc}
use native.Mathlib.Numerals.{add-one}
use borrow.Author.Tests.{ltb-true, ltb-false, eqb-true, eq-eqb}
use lib.Dec.{T, eqb, ltb}
use native.Mathlib.Omega.{arith}
use Rattle.prelude.specs.Choice.{pick}
use Rattle.prelude.specs.First.{first_from, last_before}

pub record First (test : ℕ → Bool) (i n j : ℕ) : Type 0 where
  pub at_most : j ≤ i + n
  pub at_least : i ≤ j
  pub before : (k : ℕ) → i ≤ k → k < j → test k ≡ false
  pub found : j < i + n → test j ≡ true

true_not_false : ◌≡◌ {A = Bool} true false → ⊥
true_not_false h = subst (λ (b : Bool). T b) h tt

module _ (test : ℕ → Bool) where
  here : (i n : ℕ) → test i ≡ true → First test i (suc n) i
  here i n h = record {
    at_most = omega arith;
    at_least = omega arith;
    before = λ k low high. absurd (omega arith);
    found = λ _. h;
  }

  later : (i n j : ℕ) → test i ≡ false → First test (i + 1) n j → First test i (suc n) j
  later i n j h f = record {
    at_most = omega (arith, f.at_most);
    at_least = omega (arith, f.at_least);
    before = λ k low high. at k low high (eq-or-lt_of_le low);
    found = λ inside. f.found (omega arith);
  }
    where
      at : (k : ℕ) → i ≤ k → k < j → (i ≡ k) ⊎ (i < k) → test k ≡ false
      at k low high (inl e) = rw (← e) h
      at k low high (inr past) = f.before k (omega arith) high

  pub first_is : (i n : ℕ) → First test i n (first_from test i n)
  unfolding first_from
  first_is i zero = record {
    at_most = omega arith;
    at_least = omega arith;
    before = λ k low high. absurd (omega arith);
    found = λ inside. absurd (omega arith);
  }
  first_is i (suc n) = by (test i) refl (first_is (i + 1) n)
    where
      by : (b : Bool) → test i ≡ b → First test (i + 1) n (first_from test (i + 1) n)
          → First test i (suc n) (pick b i (first_from test (i + 1) n))
      by true h f = here i n h
      by false h f = later i n (first_from test (i + 1) n) h f

  -- where the place that is found fails the test, no place passes it
  pub none_holds : (n : ℕ) → test (first_from test 0 n) ≡ false → (k : ℕ) → k < n → test k ≡ false
  none_holds n h k inside = by (ltb (first_from test 0 n) n) refl
    where
      by : (b : Bool) → ltb (first_from test 0 n) n ≡ b → test k ≡ false
      by true e =
          let yes = (first_is 0 n).found (omega (arith, ltb-true (first_from test 0 n) n e)) in
          let z : ◌≡◌ {A = Bool} true false = cc in
          absurd (true_not_false z)
      by false e = (first_is 0 n).before k (omega arith) (omega (arith, ltb-false (first_from test 0 n) n e))

  not_before : (i n j k : ℕ) → First test i n j → First test i n k → j < k → ⊥
  not_before i n j k f g h =
      let yes = f.found (omega (arith, g.at_most)) in
      let no = g.before j f.at_least h in
      let z : ◌≡◌ {A = Bool} true false = cc in
      absurd (true_not_false z)

  -- what is first is the only such place
  pub first_only : (i n j k : ℕ) → First test i n j → First test i n k → j ≡ k
  first_only i n j k f g = by (ltb j k) (ltb k j) refl refl
    where
      by : (a b : Bool) → ltb j k ≡ a → ltb k j ≡ b → j ≡ k
      by true b h h' = absurd (not_before i n j k f g (ltb-true j k h))
      by false true h h' = absurd (not_before i n k j g f (ltb-true k j h'))
      by false false h h' = le_antisymm (ltb-false k j h') (ltb-false j k h)

-- tests that agree at every place asked for find the same
pub first_same : (test other : ℕ → Bool) (i n : ℕ) → ((k : ℕ) → i ≤ k → k < i + n → test k ≡ other k)
    → first_from test i n ≡ first_from other i n
first_same test other i n same =
    let f = first_is test i n in
    first_only other i n (first_from test i n) (first_from other i n)
    (record {
      at_most = f.at_most;
      at_least = f.at_least;
      before = λ k low high. sym (same k low (omega (arith, f.at_most))) ∙ f.before k low high;
      found = λ inside. sym (same (first_from test i n) f.at_least inside) ∙ f.found inside;
    })
    (first_is other i n)

-- A loop that goes up from a place: every place passed fails the test.
module _ (test : ℕ → Bool) (from : ℕ) where
  abbrev pub Passed : ℕ → Type 0
  Passed i = (from ≤ i) × ((k : ℕ) → from ≤ k → k < i → test k ≡ false)

  pub none_passed : Passed from
  none_passed = (omega arith, λ k low high. absurd (omega arith))

  pub one_more_passed : (i : ℕ) → Passed i → test i ≡ false → Passed (i + 1)
  one_more_passed i p h = (
    omega (arith, p.0),
    λ k low high. at k low (eq-or-lt_of_le (le_of_suc-le-suc (rw add-one
        at high))),
  )
    where
      at : (k : ℕ) → from ≤ k → (k ≡ i) ⊎ (k < i) → test k ≡ false
      at k low (inl e) = rw e h
      at k low (inr below) = p.1 k low below

  pub passed_to : (i n : ℕ) → Passed i → i < from + n → test i ≡ true → i ≡ first_from test from n
  passed_to i n p inside h =
      first_only test from n i (first_from test from n)
      (record { at_most = omega arith; at_least = p.0; before = p.1; found = λ _. h }) (first_is test from n)

  pub passed_all : (i n : ℕ) → Passed i → i ≤ from + n → from + n ≤ i → i ≡ first_from test from n
  passed_all i n p most least =
      first_only test from n i (first_from test from n)
      (record { at_most = most; at_least = p.0; before = p.1; found = λ inside. absurd (omega arith) }) (first_is
      test from n)

-- a search over n places that ends at n has found nothing, and the other way round
pub none_found : (test : ℕ → Bool) (n : ℕ) → eqb (first_from test 0 n) n ≡ true → (k : ℕ) → k < n → test k ≡ false
none_found test n h k inside =
    let e = eqb-true (first_from test 0 n) n h in
    (first_is test 0 n).before k (omega arith) (omega arith)

pub found_none : (test : ℕ → Bool) (n : ℕ) → ((k : ℕ) → k < n → test k ≡ false) → eqb (first_from test 0 n) n ≡ true
found_none test n h =
    eq-eqb (first_from test 0 n) n
    (first_only test 0 n (first_from test 0 n) n (first_is test 0 n)
    (record {
      at_most = omega arith;
      at_least = omega arith;
      before = λ k low high. h k high;
      found = λ inside. absurd (omega arith);
    }))

-- ---- the highest place, by one more than it

pub record Last (test : ℕ → Bool) (n j : ℕ) : Type 0 where
  pub at_most : j ≤ n
  pub found : (i : ℕ) → j ≡ suc i → test i ≡ true
  pub after : (k : ℕ) → j ≤ k → k < n → test k ≡ false

pub last_is : (test : ℕ → Bool) (n : ℕ) → Last test n (last_before test n)
unfolding last_before
last_is test zero = record {
  at_most = omega arith;
  found = λ i e. absurd (omega arith);
  after = λ k low high. absurd (omega arith);
}
last_is test (suc n) = by (test n) refl (last_is test n)
  where
    more : test n ≡ false → (j : ℕ) → Last test n j → (k : ℕ) → j ≤ k → (k ≡ n) ⊎ (k < n) → test k ≡ false
    more h j f k low (inl e) = rw e h
    more h j f k low (inr below) = f.after k low below

    by : (b : Bool) → test n ≡ b → Last test n (last_before test n)
        → Last test (suc n) (pick b (suc n) (last_before test n))
    by true h f = record {
      at_most = omega arith;
      found = λ i e. let same : i ≡ n = omega arith in rw same h;
      after = λ k low high. absurd (omega arith);
    }
    by false h f = record {
      at_most = omega (arith, f.at_most);
      found = f.found;
      after = λ k low high. more h (last_before test n) f k low (eq-or-lt_of_le (le_of_suc-le-suc high));
    }
