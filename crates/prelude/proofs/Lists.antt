-- Which elements pass a test, that all do, and that every list of n bytes is among all of them.
-- Assumes nothing.
use mathlib.Core.Path.{◌≡◌, refl, sym, ap, ◌∙◌}
use mathlib.Core.Logic.{◌⊎◌, inl, inr}
use mathlib.Core.Bool.{Bool, true, false, true≢false}
use mathlib.Core.List.Memᴰ
use mathlib.Core.List.{List, [], ◌∷◌, map, head_d, Memᴰ}
use Prim.Native.Nat.{ℕ, zero, suc, ◌+◌, ◌≤◌, ◌<◌}
use native.Mathlib.Nat.{eq-or-lt_of_le}
use native.Mathlib.Omega.{arith}
use lib.ListN.{length}
use Rattle.prelude.specs.Bytes.{AllBytes}
use Rattle.prelude.specs.Choice.{pick}
use Rattle.prelude.specs.Concat.{concat_from}
use Rattle.prelude.specs.Lists.{passing, all_pass, all_lists}
use Rattle.prelude.proofs.Choice.{both_true}

module _ {A : Type 0} (test : A → Bool) where
  -- an element that passes is among those that do
  pub passes_in : (x : A) (xs : List A) → test x ≡ true → Memᴰ x xs → Memᴰ x (passing test xs)
  unfolding passing
  passes_in x [] p m = absurd (Memᴰ.not-nil m)
  passes_in x (y ∷ ys) p m = by (test y) refl (Memᴰ.cases_cons m) (passes_in x ys p)
    where
      by : (b : Bool) → test y ≡ b → (x ≡ y) ⊎ Memᴰ x ys → (Memᴰ x ys → Memᴰ x (passing test ys))
          → Memᴰ x (pick b (y ∷ passing test ys) (passing test ys))
      by true e (inl same) more = Memᴰ.head same
      by true e (inr later) more = Memᴰ.tail (more later)
      by false e (inl same) more = absurd (true≢false (sym p ∙ rw same e))
      by false e (inr later) more = more later

  -- and the other way round
  pub in_passes : (x : A) (xs : List A) → Memᴰ x (passing test xs) → (test x ≡ true) × Memᴰ x xs
  unfolding passing
  in_passes x [] m = absurd (Memᴰ.not-nil m)
  in_passes x (y ∷ ys) m = by (test y) refl m (in_passes x ys)
    where
      first : test y ≡ true → (x ≡ y) ⊎ Memᴰ x (passing test ys)
          → (Memᴰ x (passing test ys) → (test x ≡ true) × Memᴰ x ys)
          → (test x ≡ true) × Memᴰ x (y ∷ ys)
      first e (inl same) more = (rw same e, Memᴰ.head same)
      first e (inr later) more = ((more later).0, Memᴰ.tail (more later).1)

      by : (b : Bool) → test y ≡ b → Memᴰ x (pick b (y ∷ passing test ys) (passing test ys))
          → (Memᴰ x (passing test ys) → (test x ≡ true) × Memᴰ x ys)
          → (test x ≡ true) × Memᴰ x (y ∷ ys)
      by true e m more = first e (Memᴰ.cases_cons m) more
      by false e m more = ((more m).0, Memᴰ.tail (more m).1)

  pub all_passes : (xs : List A) → ((x : A) → Memᴰ x xs → test x ≡ true) → all_pass test xs ≡ true
  unfolding all_pass
  all_passes [] each = refl
  all_passes (x ∷ xs) each =
      rw (each x (Memᴰ.head refl)) (all_passes xs (λ y m. each y (Memᴰ.tail m)))

  pub each_passes : (xs : List A) → all_pass test xs ≡ true → (x : A) → Memᴰ x xs → test x ≡ true
  unfolding all_pass
  each_passes [] all x m = absurd (Memᴰ.not-nil m)
  each_passes (y ∷ ys) all x m =
      let both = both_true (test y) (all_pass test ys) all in
      by both.0 (Memᴰ.cases_cons m) (each_passes ys both.1 x)
    where
      by : test y ≡ true → (x ≡ y) ⊎ Memᴰ x ys → (Memᴰ x ys → test x ≡ true) → test x ≡ true
      by e (inl same) more = rw same e
      by e (inr later) more = more later

-- a list that has an element has a first
pub first_in : {A : Type 0} (x d : A) (xs : List A) → Memᴰ x xs → Memᴰ (head_d xs d) xs
unfolding head_d
first_in x d [] m = absurd (Memᴰ.not-nil m)
first_in x d (y ∷ ys) m = Memᴰ.head refl

pub some_in : {A : Type 0} (x : A) (xs : List A) → Memᴰ x xs → 0 < length xs
some_in x [] m = absurd (Memᴰ.not-nil m)
some_in x (y ∷ ys) m = omega arith

-- ---- all lists of bytes

-- what is at one of the places is joined
in_concat : {A : Type 0} (f : ℕ → List A) (x : A) (i n k : ℕ) → i ≤ k → k < i + n → Memᴰ x (f k)
    → Memᴰ x (concat_from f i n)
unfolding concat_from
in_concat f x i zero k low high m = absurd (omega arith)
in_concat f x i (suc n) k low high m =
    by (eq-or-lt_of_le low) (λ past. in_concat f x (i + 1) n k (omega arith) (omega arith) m)
  where
    by : (i ≡ k) ⊎ (i < k) → (i < k → Memᴰ x (concat_from f (i + 1) n))
        → Memᴰ x (concat_from f i (suc n))
    by (inl same) more = Memᴰ.append_left {s = f i} (concat_from f (i + 1) n) (rw same m)
    by (inr past) more = Memᴰ.append_right (f i) (more past)

in_map : {A B : Type 0} (f : A → B) (x : A) (xs : List A) → Memᴰ x xs → Memᴰ (f x) (map f xs)
in_map f x [] m = absurd (Memᴰ.not-nil m)
in_map f x (y ∷ ys) m = by (Memᴰ.cases_cons m) (in_map f x ys)
  where
    by : (x ≡ y) ⊎ Memᴰ x ys → (Memᴰ x ys → Memᴰ (f x) (map f ys)) → Memᴰ (f x) (map f (y ∷ ys))
    by (inl same) more = Memᴰ.head (ap f same)
    by (inr later) more = Memᴰ.tail (more later)

pub all_in : (n : ℕ) (l : List ℕ) → length l ≡ n → AllBytes l → Memᴰ l (all_lists n)
unfolding all_lists
all_in zero [] long bytes = Memᴰ.head refl
all_in zero (b ∷ l) long bytes = absurd (omega arith)
all_in (suc n) [] long bytes = absurd (omega arith)
all_in (suc n) (b ∷ l) long bytes =
    in_concat (λ byte. map (λ rest. byte ∷ rest) (all_lists n)) (b ∷ l) 0 256 b (omega arith) (bytes 0)
    (in_map (λ rest. b ∷ rest) l (all_lists n) (all_in n l (omega arith) (λ k. bytes (suc k))))
