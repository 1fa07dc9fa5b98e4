-- A number is kept by its low bytes, and bytes by their number; fields of one size are kept one behind the other.
-- Assumes nothing.
use mathlib.Core.Path.{◌≡◌, refl, sym, ap, ◌∙◌}
use mathlib.Core.List.{List, [], ◌∷◌}
use Prim.Native.Nat.{ℕ, zero, suc, ◌+◌, ◌*◌, ◌/◌, ◌%◌, ◌^◌, ◌≤◌, ◌<◌}
use native.Mathlib.Nat.{add-mul-mod_self_left, div-add-mod, div-lt_iff_lt-mul, le_of_suc-le-suc, mod-eq_of_lt, mod-lt}
use native.Mathlib.Nat.{mod-one, mul_assoc, mul_comm, mul-suc, mul-zero, one-le-pow, pow-le-pow_right, pow-suc}
use native.Mathlib.Nat.{pow-zero}
use native.Mathlib.Nat.{zero-mod}
use native.Mathlib.Omega.{arith}
use lib.ListN.{length, get_or, take, drop, length-append, length-drop, length-take}
use lib.Seq.{drop-drop, drop_at, take-add, take_at}
use Rattle.prelude.specs.Bytes.{AllBytes}
use Rattle.prelude.proofs.Bytes.{bytes_drop, bytes_take}
use Rattle.fields.specs.Fields.{number, low_bytes, joined, parted, field_at}

-- ---- a number and its low bytes

pub length_low : (size value : ℕ) → length (low_bytes size value) ≡ size
unfolding low_bytes
length_low zero value = refl
length_low (suc size) value = ap suc (length_low size (value / 256))

-- the number of its low bytes, if it has no more
pub number_low : (size value : ℕ) → value < 256 ^ size → number (low_bytes size value) ≡ value
unfolding low_bytes
number_low zero value small = omega (arith, pow-zero 256)
number_low (suc size) value small =
    let fewer : value / 256 < 256 ^ size = (div-lt_iff_lt-mul {k = 256} (omega arith)).1 (rw pow-suc at small) in
    omega (arith, number_low size (value / 256) fewer, div-add-mod value 256)

-- the low bytes of the number of bytes
pub low_number : (size : ℕ) (bytes : List ℕ) → AllBytes bytes → size ≤ length bytes
    → low_bytes size (number (take size bytes)) ≡ take size bytes
unfolding low_bytes
low_number zero bytes small room = refl
low_number (suc size) [] small room = absurd (omega arith)
low_number (suc size) (b ∷ bs) small room =
    let more = number (take size bs) in
    let first : (b + 256 * more) % 256 ≡ b = omega (arith, small 0) in
    let rest : (b + 256 * more) / 256 ≡ more = omega (arith, small 0) in
    rw (first, rest, low_number size bs (λ k. small (suc k)) (omega arith))

-- bytes as a number are below the power of 256 that has as many digits
pub number_bound : (bytes : List ℕ) → AllBytes bytes → number bytes < 256 ^ length bytes
number_bound [] small = omega arith
number_bound (b ∷ bs) small =
    let rest = number_bound bs (λ k. small (suc k)) in
    rw pow-suc (omega (arith, small 0))

-- one byte more in front
step : (b v p : ℕ) → b < 256 → 0 < p → (b + 256 * v) % (p * 256) ≡ b + 256 * (v % p)
step b v p h some =
    let parts : p * (v / p) + v % p ≡ v = div-add-mod v p in
    let turned : p * 256 * (v / p) ≡ 256 * (p * (v / p)) = rw (mul_comm p 256) (mul_assoc 256 p (v / p)) in
    let whole : b + 256 * v ≡ b + 256 * (v % p) + p * 256 * (v / p) = omega arith in
    let below : v % p < p = mod-lt v some in
    let inside : b + 256 * (v % p) < p * 256 = omega arith in
    rw whole (add-mul-mod_self_left (b + 256 * (v % p)) (p * 256) (v / p) ∙ mod-eq_of_lt inside)

-- the low bytes of a number of bytes are the number of the first of them
pub number_first : (l : List ℕ) (k n : ℕ) → AllBytes l → n ≤ k → number (take k l) % 256 ^ n ≡ number (take n l)
number_first l k zero small h = mod-one (number (take k l))
number_first l zero (suc n) small h = absurd (omega arith)
number_first [] (suc k) (suc n) small h = zero-mod (256 ^ suc n)
number_first (b ∷ bs) (suc k) (suc n) small h =
    let rest = number_first bs k n (λ j. small (suc j)) (le_of_suc-le-suc h) in
    rw (pow-suc, step b (number (take k bs)) (256 ^ n) (small 0) (one-le-pow n 256 (omega arith)), rest)

-- a field is below the power of 256 that has as many digits as its size
pub field_bound : (at size : ℕ) (bytes : List ℕ) → AllBytes bytes → field_at at size bytes < 256 ^ size
field_bound at size bytes small =
    let part = take size (drop at bytes) in
    let short : length part ≤ size = rw (length-take size (drop at bytes)) (omega arith) in
    let up : 256 ^ length part ≤ 256 ^ size = pow-le-pow_right (omega arith) short in
    omega (arith, number_bound part (bytes_take size (drop at bytes) (bytes_drop at bytes small)))

-- ---- fields of one size

pub length_joined : (size : ℕ) (values : List ℕ) → length (joined size values) ≡ size * length values
unfolding joined
length_joined size [] = sym (mul-zero size)
length_joined size (value ∷ values) =
    rw (length-append, length_low size value, length_joined size values, mul-suc size (length values)) (omega arith)

pub length_parted : (size n : ℕ) (bytes : List ℕ) → length (parted size n bytes) ≡ n
unfolding parted
length_parted size zero bytes = refl
length_parted size (suc n) bytes = ap suc (length_parted size n (drop size bytes))

-- fields that bytes begin with, joined, are those bytes
pub joined_parted : (size n : ℕ) (bytes : List ℕ) → AllBytes bytes → size * n ≤ length bytes
    → joined size (parted size n bytes) ≡ take (size * n) bytes
unfolding joined parted
joined_parted size zero bytes small room = rw mul-zero refl
joined_parted size (suc n) bytes small room =
    let more : size * suc n ≡ size + size * n = rw (mul-suc size n) (omega arith) in
    let first = low_number size bytes small (omega (arith, more)) in
    let left : size * n ≤ length (drop size bytes) = rw length-drop (omega (arith, more)) in
    let rest = joined_parted size n (drop size bytes) (bytes_drop size bytes small) left in
    rw (first, rest, more, take-add size (size * n) bytes)

-- numbers, joined, are the fields that those bytes begin with
pub parted_joined : (size : ℕ) (values : List ℕ) → ((k : ℕ) → get_or values k 0 < 256 ^ size)
    → parted size (length values) (joined size values) ≡ values
unfolding joined parted
parted_joined size [] small = refl
parted_joined size (value ∷ values) small =
    rw (
      take_at (low_bytes size value) (joined size values) size (length_low size value),
      drop_at (low_bytes size value) (joined size values) size (length_low size value),
      number_low size value (small 0),
      parted_joined size values (λ k. small (suc k)),
    )

-- the first of the fields from a place on
pub parted_from : (size n at : ℕ) (bytes : List ℕ)
    → parted size (suc n) (drop at bytes) ≡ field_at at size bytes ∷ parted size n (drop (at + size) bytes)
unfolding parted
parted_from size n at bytes = rw drop-drop

pub parted_none : (size : ℕ) (bytes : List ℕ) → parted size 0 bytes ≡ []
unfolding parted
parted_none size bytes = refl

-- each of the fields stands at its place
pub parted_at : (size n k : ℕ) (bytes : List ℕ) → k < n → get_or (parted size n bytes) k 0 ≡ field_at (size * k) size
    bytes
unfolding parted
parted_at size zero k bytes inside = absurd (omega arith)
parted_at size (suc n) zero bytes inside = rw (mul-zero size) refl
parted_at size (suc n) (suc k) bytes inside =
    let on : size * suc k ≡ size + size * k = rw (mul-suc size k) (omega arith) in
    rw (on, ← drop-drop (size * k) size bytes) (parted_at size n k (drop size bytes) (omega arith))
