-- A `match` on a number whose keys are 1, 2, .. gives the values of a list in order, and the list's first value for any
-- other number: where no key fits, the number is 0 or past the list.
-- Assumes nothing.
use mathlib.Core.Path.{◌≡◌, refl, sym}
use mathlib.Core.Logic.{◌⊎◌, inl, inr, ⊎_elim}
use mathlib.Core.List.{List, [], ◌∷◌}
use Prim.Native.Nat.{ℕ, zero, suc, ◌<◌}
use native.Mathlib.Nat.{eq-zero-or-pos, eq-or-lt_of_le}
use lib.ListN.{length, get_or, get_or-eq_default}
use types.Run.{OneOf}

-- none of the keys 1 to j is n, as the walk of a `match` says it
abbrev pub NoKey : ℕ → ℕ → Type 0
NoKey n zero = Unit {0}
NoKey n (suc j) = NoKey n j × (OneOf (suc j ∷ []) n → ⊥)

-- then n is 0 or past them
pub outside : (n j : ℕ) → NoKey n j → (n ≡ 0) ⊎ (j < n)
outside n zero k = eq-zero-or-pos n
outside n (suc j) k =
    ⊎_elim (λ (z : n ≡ 0). inl z) (λ (past : j < n). further (eq-or-lt_of_le past)) (outside n j k.0)
  where
    further : (suc j ≡ n) ⊎ (suc j < n) → (n ≡ 0) ⊎ (suc j < n)
    further (inl e) = absurd (k.1 (sym e))
    further (inr past) = inr past

-- how many values of a list have a key
abbrev pub keys : {A : Type 0} → List A → ℕ
keys [] = 0
keys (x ∷ xs) = length xs

pub no_key : {A : Type 0} (l : List A) (d : A) (n : ℕ) → d ≡ get_or l 0 d → NoKey n (keys l) → d ≡ get_or l n d
no_key [] d n first k = refl
no_key (x ∷ xs) d n first k =
    ⊎_elim (λ (z : n ≡ 0). rw z first) (λ (past : length xs < n). sym (get_or-eq_default (x ∷ xs) d past))
    (outside n (length xs) k)
