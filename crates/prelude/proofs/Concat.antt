-- Joined lists: one more at the end, the same pieces, and pieces of the places one further on. Each by induction on the
-- number of places.
-- Assumes nothing.
use mathlib.Core.Path.{◌≡◌, refl, sym, ap, ◌∙◌}
use mathlib.Core.List.{List, ◌++◌, append_assoc, append-nil}
use Prim.Native.Nat.{ℕ, zero, suc, ◌+◌, ◌≤◌, ◌<◌}
use native.Mathlib.Omega.{arith}
use Rattle.prelude.specs.Concat.{concat_from}

-- one more at the end
pub concat_snoc : {A : Type 0} (f : ℕ → List A) (i n : ℕ) → concat_from f i (suc n) ≡ concat_from f i n ++ f (i + n)
unfolding concat_from
concat_snoc f i zero =
    let same : i + 0 ≡ i = omega arith in
    rw same (append-nil (f i))
concat_snoc f i (suc n) =
    let same : i + 1 + n ≡ i + suc n = omega arith in
    let rest = rw same at (concat_snoc f (i + 1) n) in
    ap (f i ++◌) rest ∙ sym (append_assoc (f i) (concat_from f (i + 1) n) (f (i + suc n)))

-- pieces that are the same at each place
pub concat_same : {A : Type 0} (f g : ℕ → List A) (i n : ℕ) → ((k : ℕ) → i ≤ k → k < i + n → f k ≡ g k)
    → concat_from f i n ≡ concat_from g i n
unfolding concat_from
concat_same f g i zero same = refl
concat_same f g i (suc n) same =
    let rest = concat_same f g (i + 1) n (λ k low high. same k (omega arith) (omega arith)) in
    rw (same i (omega arith) (omega arith), rest)

-- the pieces of the places one further on
pub concat_shift : {A : Type 0} (f : ℕ → List A) (i n : ℕ) → concat_from f (i + 1) n ≡ concat_from (λ k. f (k + 1)) i n
unfolding concat_from
concat_shift f i zero = refl
concat_shift f i (suc n) = ap (f (i + 1) ++◌) (concat_shift f (i + 1) n)
