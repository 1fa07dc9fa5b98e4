-- The tests of the addresses as the library's methods make them.
-- Assumes nothing.
use Rattle.std.proofs.Common.{◌≡◌, ℕ, zero, suc, ◌+◌, ◌<◌, Bool, true, false, ◌&&◌, List, [], ◌∷◌, refl, ltb, leb}
use Rattle.std.proofs.Common.{length, add-one, arith, MatchBool}
use Rattle.std.specs.List.{AllWithin, HoldsAt, IsAllAdjacentAnswer, slice_index_or}
use Rattle.reports.specs.Locate.{is_ascending, all_inside}

-- ---- in order

all_ascend : (addresses : List ℕ)
    → ((k : ℕ) → k + 1 < length addresses
    → true ≡ ltb (slice_index_or addresses k 0) (slice_index_or addresses (k + 1) 0))
    → true ≡ is_ascending addresses
unfolding is_ascending
all_ascend [] each = refl
all_ascend (a ∷ []) each = refl
all_ascend (a ∷ b ∷ rest) each =
    rw (← each 0 (omega arith))
    (all_ascend (b ∷ rest) (λ k inside. rw add-one (rw add-one at (each (suc k) (omega arith)))))

one_falls : (addresses : List ℕ) (k : ℕ) → k + 1 < length addresses
    → false ≡ ltb (slice_index_or addresses k 0) (slice_index_or addresses (k + 1) 0) → false ≡ is_ascending addresses
unfolding is_ascending
one_falls [] k inside falls = absurd (omega arith)
one_falls (a ∷ []) k inside falls = absurd (omega arith)
one_falls (a ∷ b ∷ rest) zero inside falls = rw (← falls)
one_falls (a ∷ b ∷ rest) (suc k) inside falls =
    by (ltb a b) (one_falls (b ∷ rest) k (omega arith) (rw add-one (rw add-one at falls)))
  where
    by : (up : Bool) → false ≡ is_ascending (b ∷ rest) → false ≡ up && is_ascending (b ∷ rest)
    by true e = e
    by false e = refl

pub ascending_by : (addresses : List ℕ) (up : Bool) → IsAllAdjacentAnswer (λ x y b. b ≡ ltb x y) addresses up
    → up ≡ is_ascending addresses
ascending_by addresses true each = all_ascend addresses (λ k inside. each k 0 inside)
ascending_by addresses false (k, inside, falls) = one_falls addresses k inside (falls 0)

-- ---- within the image

module _ (base size : ℕ) where
  abbrev pub IsInside : ℕ → Type 0
  IsInside a = leb base a && ltb a (base + size) ≡ true

  abbrev pub IsOutside : ℕ → Type 0
  IsOutside a = leb base a && ltb a (base + size) ≡ false

  pub each_inside : (addresses : List ℕ) → ((k : ℕ) → k < length addresses → IsInside (slice_index_or addresses k 0))
      → true ≡ all_inside base size addresses
  unfolding all_inside
  each_inside [] each = refl
  each_inside (a ∷ rest) each =
      rw (each 0 (omega arith)) (each_inside rest (λ k inside. each (suc k) (omega arith)))

  one_outside : (addresses : List ℕ) (k : ℕ) → k < length addresses → IsOutside (slice_index_or addresses k 0)
      → false ≡ all_inside base size addresses
  unfolding all_inside
  one_outside [] k inside out = absurd (omega arith)
  one_outside (a ∷ rest) zero inside out = rw out
  one_outside (a ∷ rest) (suc k) inside out =
      by (leb base a && ltb a (base + size)) (one_outside rest k (omega arith) out)
    where
      by : (here : Bool) → false ≡ all_inside base size rest → false ≡ here && all_inside base size rest
      by true e = e
      by false e = refl

  pub inside_by : (addresses : List ℕ) (yes : Bool)
      → MatchBool yes (AllWithin IsInside addresses 0 (length addresses))
      ((k : ℕ) × (k < length addresses) × HoldsAt IsOutside addresses k)
      → yes ≡ all_inside base size addresses
  inside_by addresses true each = each_inside addresses (λ k inside. each k 0 (omega arith) inside)
  inside_by addresses false (k, inside, out) = one_outside addresses k inside (out 0)
