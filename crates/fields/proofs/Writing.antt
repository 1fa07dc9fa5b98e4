-- Fields are written from the first byte on: what is left to be put, put into the bytes as they are, comes to the same
-- in each turn of the loop.
-- Assumes nothing.
use mathlib.Core.Path.{◌≡◌, refl}
use mathlib.Core.List.{List, [], ◌∷◌, ◌++◌}
use Prim.Native.Nat.{ℕ, suc, ◌+◌, ◌-◌, ◌*◌, ◌/◌, ◌%◌, ◌≤◌, ◌<◌}
use native.Mathlib.Nat.{add-zero}
use native.Mathlib.Numerals.{add-one}
use native.Mathlib.Omega.{arith}
use lib.ListN.{length, get_or, drop, set, drop_of_length-le}
use lib.Seq.{drop-cons, length-sets, sets, sets-eq}
use Rattle.std.proofs.lemmas.List.{append-nil}
use Rattle.fields.specs.Fields.{low_bytes, joined}
use Rattle.fields.proofs.Fields.{length_low}

-- ---- a field is written

-- what is left of a field from the byte i on
abbrev pub Left : List ℕ → ℕ → ℕ → List ℕ → ℕ → ℕ → Type 0
Left field₀ size given field value i =
    sets field i (low_bytes (size - i) value) ≡ sets field₀ 0 (low_bytes size given)

module _ (field₀ : List ℕ) (size given : ℕ) where
  pub one_less : (field : List ℕ) (value i : ℕ) → i < size → Left field₀ size given field value i
      → Left field₀ size given (set field i (value % 256)) (value / 256) (i + 1)
  unfolding low_bytes
  one_less field value i inside l =
      let more : size - i ≡ suc (size - (i + 1)) = omega arith in
      let on : i + 1 ≡ suc i = omega arith in
      rw on (rw (more, on) at l)

  pub none_left : (field : List ℕ) (value i : ℕ) → length field₀ ≡ size → size ≤ i → Left field₀ size given field
      value i
      → field ≡ low_bytes size given
  unfolding low_bytes
  none_left field value i whole past l =
      let none : size - i ≡ 0 = omega arith in
      let long = length_low size given in
      let room : 0 + length (low_bytes size given) ≤ length field₀ = omega (arith, whole, long) in
      let all = sets-eq (low_bytes size given) field₀ 0 room in
      let past_all : length field₀ ≤ 0 + length (low_bytes size given) = omega (arith, whole, long) in
      rw (none, all, drop_of_length-le field₀ {i = 0 + length (low_bytes size given)} past_all, append-nil) at l

-- ---- fields are written

pub sets_append : (l : List ℕ) (i : ℕ) (vs ws : List ℕ) → sets l i (vs ++ ws) ≡ sets (sets l i vs) (i + length vs) ws
sets_append l i [] ws = rw (add-zero i) refl
sets_append l i (v ∷ vs) ws =
    let on : i + suc (length vs) ≡ suc i + length vs = omega arith in
    rw on (sets_append (set l i v) (suc i) vs ws)

-- what is left of fields from the field i on, which goes to a place
abbrev pub AllLeft : List ℕ → ℕ → ℕ → List ℕ → List ℕ → ℕ → ℕ → Type 0
AllLeft bytes₀ from size values bytes at i = (at ≡ from + size * i) × (length bytes ≡ length bytes₀)
    × (sets bytes at (joined size (drop i values)) ≡ sets bytes₀ from (joined size values))

module _ (bytes₀ : List ℕ) (from size : ℕ) (values : List ℕ) where
  pub field_less : (bytes : List ℕ) (at i : ℕ) → i < length values → AllLeft bytes₀ from size values bytes at i
      → (after : List ℕ) → after ≡ sets bytes at (low_bytes size (get_or values i 0))
      → AllLeft bytes₀ from size values after (at + size) (i + 1)
  unfolding joined
  field_less bytes at i inside l after e =
      let v = get_or values i 0 in
      let long = length_low size v in
      let whole = rw (
        drop-cons values i 0 inside,
        sets_append bytes at (low_bytes size v)
            (joined size (drop (suc i) values)),
        long,
      ) at l.2 in (
        omega (arith, l.0),
        rw (e, length-sets bytes at (low_bytes size v)) l.1,
        rw (e, add-one i) whole,
      )

  pub no_field_left : (bytes : List ℕ) (at i : ℕ) → length values ≤ i → AllLeft bytes₀ from size values bytes at i
      → bytes ≡ sets bytes₀ from (joined size values)
  unfolding joined
  no_field_left bytes at i past l = rw (drop_of_length-le values {i = i} past) at l.2
