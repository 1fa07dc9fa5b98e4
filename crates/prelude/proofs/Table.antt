-- A rule of a table holds at every place of it by one test that antt computes over the whole table. The test is told
-- the place, so that a table of tables can be tested by place; past the end the rule is asked of the default.
-- Assumes nothing.
use mathlib.Core.Path.{◌≡◌, refl}
use mathlib.Core.Logic.{◌⊎◌, inl, inr}
use mathlib.Core.Bool.{Bool, true, false, ◌&&◌}
use mathlib.Core.List.{List, [], ◌∷◌}
use Prim.Native.Nat.{ℕ, zero, suc, ◌+◌, ◌<◌}
use native.Mathlib.Nat.{add-zero, zero-add, add-suc, suc-add, not-suc-le-zero, le_of_suc-le-suc, eq-or-lt_of_le}
use lib.Dec.{T, eqb, eqb→eq}
use lib.ListN.{get_or}

pub and_left : (a b : Bool) → T (a && b) → T a
and_left true b t = tt
and_left false b t = t

pub and_right : (a b : Bool) → T (a && b) → T b
and_right true b t = t
and_right false b t = absurd t

module _ {A : Type 0} where
  -- the test passes at each element and its place, counted from i
  abbrev pub every : (ℕ → A → Bool) → ℕ → List A → Bool
  every test i [] = true
  every test i (x ∷ xs) = test i x && every test (suc i) xs

  from : (test : ℕ → A → Bool) (d : A) → ((k : ℕ) → T (test k d)) → (xs : List A) (i : ℕ) → T (every test i xs)
      → (k : ℕ) → T (test (i + k) (get_or xs k d))
  from test d past [] i t k = past (i + k)
  from test d past (x ∷ xs) i t zero = rw add-zero (and_left (test i x) (every test (suc i) xs) t)
  from test d past (x ∷ xs) i t (suc k) =
      rw (add-suc, ← suc-add) (from test d past xs (suc i) (and_right (test i x) (every test (suc i) xs) t) k)

  -- the test passes wherever one looks
  pub everywhere : (test : ℕ → A → Bool) (d : A) → ((k : ℕ) → T (test k d)) → (xs : List A) → T (every test 0 xs)
      → (k : ℕ) → T (test k (get_or xs k d))
  everywhere test d past xs t k = rw zero-add at (from test d past xs 0 t k)

  -- two lists that pass a test of equality place by place are equal
  abbrev pub same : (A → A → Bool) → List A → List A → Bool
  same test [] [] = true
  same test [] (y ∷ ys) = false
  same test (x ∷ xs) [] = false
  same test (x ∷ xs) (y ∷ ys) = test x y && same test xs ys

  pub same_list : (test : A → A → Bool) → ((x y : A) → T (test x y) → x ≡ y) → (xs ys : List A) → T (same test xs
      ys) → xs ≡ ys
  same_list test equal [] [] t = refl
  same_list test equal [] (y ∷ ys) t = absurd t
  same_list test equal (x ∷ xs) [] t = absurd t
  same_list test equal (x ∷ xs) (y ∷ ys) t =
      let first : x ≡ y = equal x y (and_left (test x y) (same test xs ys) t) in
      let rest : xs ≡ ys = same_list test equal xs ys (and_right (test x y) (same test xs ys) t) in
      rw (first, rest)

-- three levels of numbers, compared number by number
abbrev pub same_pages : List (List (List ℕ)) → List (List (List ℕ)) → Bool
same_pages = same (same (same eqb))

pub same_pages_lem : (xs ys : List (List (List ℕ))) → T (same_pages xs ys) → xs ≡ ys
same_pages_lem = same_list (same (same eqb)) (same_list (same eqb) (same_list eqb eqb→eq))

-- a test of all numbers below a bound
abbrev pub up_to : (ℕ → Bool) → ℕ → Bool
up_to test zero = true
up_to test (suc n) = test n && up_to test n

pub below_all : (test : ℕ → Bool) (n : ℕ) → T (up_to test n) → (k : ℕ) → k < n → T (test k)
below_all test zero t k h = absurd (not-suc-le-zero h)
below_all test (suc n) t k h =
    at (below_all test n (and_right (test n) (up_to test n) t)) (eq-or-lt_of_le (le_of_suc-le-suc h))
  where
    at : ((j : ℕ) → j < n → T (test j)) → (k ≡ n) ⊎ (k < n) → T (test k)
    at lower (inl e) = rw e (and_left (test n) (up_to test n) t)
    at lower (inr below) = lower k below
