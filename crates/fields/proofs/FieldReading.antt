-- A field is read from its last byte to its first: each turn of the loop puts a byte in front of what is read, and
-- eight bytes stay below 2 ^ 64.
-- Assumes nothing.
use mathlib.Core.Path.{◌≡◌, refl}
use mathlib.Core.List.{List, [], ◌∷◌}
use Prim.Native.Nat.{ℕ, suc, ◌+◌, ◌-◌, ◌*◌, ◌^◌, ◌≤◌, ◌<◌}
use native.Mathlib.Nat.{add-zero, pow-le-pow_right, pow-suc}
use native.Mathlib.Omega.{arith}
use lib.ListN.{get_or, take, drop}
use lib.Seq.{drop-drop, get_or-drop, take-nil}
use Rattle.fields.specs.Fields.{number, field_at}

number_more : (n : ℕ) (l : List ℕ) → number (take (suc n) l) ≡ get_or l 0 0 + 256 * number (take n (drop 1 l))
number_more n [] = rw (take-nil n) refl
number_more n (b ∷ l) = refl

field_more : (at n : ℕ) (bytes : List ℕ) → field_at at (suc n) bytes ≡ get_or bytes at 0 + 256 * field_at (at + 1) n
    bytes
field_more at n bytes = rw (number_more n (drop at bytes), get_or-drop at bytes 0 0, add-zero at, drop-drop 1 at bytes)

-- the bytes of a field from the byte i on
abbrev pub Read : List ℕ → ℕ → ℕ → ℕ → ℕ → Type 0
Read bytes at size value i = (i ≤ size) × (value ≡ field_at (at + i) (size - i) bytes) × (value < 256 ^ (size - i))

module _ (bytes : List ℕ) (at size value i : ℕ) (some : 0 < i) (r : Read bytes at size value i) where
  pub room_for_one : size ≤ 8 → value * 256 + 255 ≤ 18_446_744_073_709_551_615
  room_for_one few =
      let short : size - i ≤ 7 = omega (arith, r.0) in
      let up : 256 ^ (size - i) ≤ 256 ^ 7 = pow-le-pow_right (omega arith) short in
      omega (arith, r.2)

  pub one_more_read : (b : ℕ) → b ≡ get_or bytes (at + (i - 1)) 0 → b < 256 → Read bytes at size (value * 256 + b)
      (i - 1)
  one_more_read b e small =
      let more : size - (i - 1) ≡ suc (size - i) = omega (arith, r.0) in
      let on : at + (i - 1) + 1 ≡ at + i = omega arith in (
        omega (arith, r.0),
        rw (more, field_more (at + (i - 1)) (size - i) bytes, on, ← r.1, ← e) (omega arith),
        rw (more, pow-suc 256 (size - i)) (omega (arith, r.2)),
      )
