-- The library's searches of a list say what the first place says: `position` gives that place, `all` that it is the
-- end.
-- Assumes nothing.
use mathlib.Core.Path.{◌≡◌, refl, sym, ◌∙◌}
use mathlib.Core.Bool.{Bool, true, false, not, cond, ◌&&◌}
use mathlib.Core.List.{List, [], ◌∷◌}
use Prim.Native.Nat.{ℕ, suc, ◌+◌, ◌≤◌, ◌<◌}
use native.Mathlib.Nat.{add-zero, zero-add}
use native.Mathlib.Omega.{arith}
use borrow.Author.Tests.{eq-eqb, ne_eqb}
use lib.Dec.{eqb}
use lib.ListN.{length, get_or}
use Rattle.std.proofs.lemmas.Iterator.{index_from_first}
use Rattle.std.specs.List.{AllWithin, HoldsAt, list_all, position_or_len}
use Rattle.std.specs.Option.{MatchOption, unwrap_or}
use Rattle.std.specs.declared.option.Option.{Option}
use Rattle.std.specs.declared.option.Option.TheVariants.{Some, None}
use Rattle.prelude.specs.Choice.{pick}
use Rattle.prelude.specs.First.{first_from}
use Rattle.prelude.proofs.First.{passed_all, passed_to}

-- a test of places is a test of what stands there
abbrev Reads : (ℕ → Bool) → (ℕ → Bool) → List ℕ → ℕ → Type 0
Reads test p xs i = (k : ℕ) → k < length xs → test (i + k) ≡ p (get_or xs k 0)

module _ (test p : ℕ → Bool) (x : ℕ) (xs : List ℕ) (i : ℕ) (reads : Reads test p (x ∷ xs) i) where
  here : test i ≡ p x
  here = rw (add-zero i) at (reads 0 (omega arith))

  behind : Reads test p xs (i + 1)
  behind k inside = let on : i + suc k ≡ i + 1 + k = omega arith in rw on at (reads (suc k) (omega arith))

position_from : (test p : ℕ → Bool) (xs : List ℕ) (i : ℕ) → Reads test p xs i
    → first_from test i (length xs) ≡ i + position_or_len p xs
unfolding first_from
position_from test p [] i reads = omega arith
position_from test p (x ∷ xs) i reads =
    rw (here test p x xs i reads, position_from test p xs (i + 1) (behind test p x xs i reads)) (by (p x))
  where
    by : (b : Bool) → pick b i (i + 1 + position_or_len p xs) ≡ i + cond (not b) (1 + position_or_len p xs) 0
    by true = omega arith
    by false = omega arith

-- the test of places fails what passes
all_from : (test p : ℕ → Bool) (xs : List ℕ) (i : ℕ) → Reads test (λ x. not (p x)) xs i
    → eqb (first_from test i (length xs)) (i + length xs) ≡ list_all p xs
unfolding first_from
all_from test p [] i reads = eq-eqb i (i + 0) (omega arith)
all_from test p (x ∷ xs) i reads =
    let rest = all_from test p xs (i + 1) (behind test (λ x. not (p x)) x xs i reads) in
    let on : i + suc (length xs) ≡ i + 1 + length xs = omega arith in
    rw (here test (λ x. not (p x)) x xs i reads) (by (p x) (rw (← on) at rest))
  where
    by : (b : Bool) → eqb (first_from test (i + 1) (length xs)) (i + suc (length xs)) ≡ list_all p xs
        → eqb (pick (not b) i (first_from test (i + 1) (length xs))) (i + suc (length xs)) ≡ (b && list_all p xs)
    by true rest = rest
    by false rest = ne_eqb i (i + suc (length xs)) (λ e. omega arith)

module _ (test p : ℕ → Bool) (xs : List ℕ) where
  -- what the library says of the place that it finds
  abbrev pub Found : Option ℕ → Type 0
  Found r = MatchOption r (AllWithin (λ x. p x ≡ false) xs 0 (length xs))
      (λ i. (i < length xs) × HoldsAt (λ x. p x ≡ true) xs i × AllWithin (λ x. p x ≡ false) xs 0 i)

  pub first_by_position : ((k : ℕ) → k < length xs → test k ≡ p (get_or xs k 0)) → (r : Option ℕ) → Found r
      → first_from test 0 (length xs) ≡ unwrap_or r (length xs)
  first_by_position reads r found =
      simp zero-add at (position_from test p xs 0 (λ k inside. rw (zero-add k) (reads k inside)))
      ∙ index_from_first (position_or_len p) (λ x. p x ≡ true) (λ x. p x ≡ false) refl (λ x xs yes. rw yes)
      (λ x xs no. rw no (omega arith)) xs r found

  -- the test of places fails what passes
  pub none_by_all : ((k : ℕ) → k < length xs → test k ≡ not (p (get_or xs k 0)))
      → eqb (first_from test 0 (length xs)) (length xs) ≡ list_all p xs
  none_by_all reads = simp zero-add at (all_from test p xs 0 (λ k inside. rw (zero-add k) (reads k inside)))

-- the same of a search over the first numbers
pub first_in_range : (test : ℕ → Bool) (n : ℕ) (r : Option ℕ)
    → MatchOption r ((k : ℕ) → 0 ≤ k → k < n → test k ≡ false)
    (λ i. (0 ≤ i) × (i < n) × (test i ≡ true) × ((k : ℕ) → 0 ≤ k → k < i → test k ≡ false))
    → first_from test 0 n ≡ unwrap_or r n
first_in_range test n None none = sym (passed_all test 0 n n (omega arith, none) (omega arith) (omega arith))
first_in_range test n (Some i) found =
    sym (passed_to test 0 i n (omega arith, found.3) (omega (arith, found.1)) found.2)
