-- Six bytes as one number are three pairs; the low bytes of a number are what a shift to and fro takes away from it.
-- Assumes nothing.
use mathlib.Core.Path.{◌≡◌, refl, sym, ◌∙◌}
use mathlib.Core.List.{List, [], ◌∷◌}
use Prim.Native.Nat.{ℕ, zero, suc, ◌+◌, ◌-◌, ◌*◌, ◌/◌, ◌%◌, ◌^◌, ◌≤◌, ◌<◌}
use native.Mathlib.Nat.{div-mul-le_self, mod-eq_of_lt, mod-eq-sub-div-mul, pow-suc}
use native.Mathlib.Numerals.{add-one}
use native.Mathlib.Omega.{arith}
use lib.ListN.{length, get_or, take, drop, length-drop}
use lib.Seq.{drop-cons, drop-drop}
use Rattle.fields.specs.Fields.{number}

twice : (k v : ℕ) → 2 ^ k ≡ v → 2 ^ suc k ≡ v * 2
twice k v e = rw (pow-suc, e)

pub eight_bits : (n : ℕ) → 2 ^ (8 * n) ≡ 256 ^ n
eight_bits zero = refl
eight_bits (suc n) =
    let more : 8 * suc n ≡ suc (suc (suc (suc (suc (suc (suc (suc (8 * n)))))))) = omega arith in
    let last : 256 ^ suc n ≡ 256 ^ n * 256 = pow-suc 256 n in
    rw (more, last) (twice _ _ (twice _ _ (twice _ _ (twice _ _ (twice _ _ (twice _ _ (twice _ _ (twice _ _
    (eight_bits n))))))))
    ∙ omega arith)

-- the bits above a place, taken away
pub low_bits_most : (value k : ℕ) → value < 18446744073709551616 → value / 2 ^ k * 2 ^ k % 18446744073709551616 ≤ value
low_bits_most value k h =
    let most : value / 2 ^ k * 2 ^ k ≤ value = div-mul-le_self value (2 ^ k) in
    let inside : value / 2 ^ k * 2 ^ k < 18446744073709551616 = omega arith in
    rw (mod-eq_of_lt inside) most

pub low_bits : (value n : ℕ) → value < 18446744073709551616
    → value - value / 2 ^ (8 * n) * 2 ^ (8 * n) % 18446744073709551616 ≡ value % 256 ^ n
low_bits value n h =
    let power : 2 ^ (8 * n) ≡ 256 ^ n = eight_bits n in
    let most : value / 256 ^ n * 256 ^ n ≤ value = div-mul-le_self value (256 ^ n) in
    let inside : value / 256 ^ n * 256 ^ n < 18446744073709551616 = omega arith in
    rw (power, mod-eq_of_lt inside) (sym (mod-eq-sub-div-mul value (256 ^ n)))

pub two_at : (l : List ℕ) (at : ℕ) → at + 2 ≤ length l
    → get_or l at 0 + 256 * get_or l (at + 1) 0 ≡ number (take 2 (drop at l))
two_at l at h = rw (drop-cons l at 0 (omega arith), drop-cons l (suc at) 0 (omega arith), add-one) (omega arith)

six : (l : List ℕ) → 6 ≤ length l
    → number (take 2 l) + 65536 * number (take 2 (drop 2 l)) + 4294967296 * number (take 2 (drop 4 l))
    ≡ number (take 6 l)
six (a ∷ b ∷ c ∷ d ∷ e ∷ f ∷ l) h = omega arith
six (a ∷ b ∷ c ∷ d ∷ e ∷ []) h = absurd (omega arith)
six (a ∷ b ∷ c ∷ d ∷ []) h = absurd (omega arith)
six (a ∷ b ∷ c ∷ []) h = absurd (omega arith)
six (a ∷ b ∷ []) h = absurd (omega arith)
six (a ∷ []) h = absurd (omega arith)
six [] h = absurd (omega arith)

pub six_at : (l : List ℕ) (at p q r : ℕ) → at + 6 ≤ length l → p ≡ number (take 2 (drop at l))
    → q ≡ number (take 2 (drop (at + 2) l)) → r ≡ number (take 2 (drop (at + 4) l))
    → p + 65536 * q + 4294967296 * r ≡ number (take 6 (drop at l))
six_at l at p q r h e-p e-q e-r =
    rw (e-p, e-q, e-r, ← drop-drop 2 at l, ← drop-drop 4 at l) (six (drop at l) (rw length-drop (omega arith)))
