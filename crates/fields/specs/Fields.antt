-- Numbers stored low byte first: one number of bytes, the bytes of one number, and fields of one size.
-- Assumes nothing.
use Rattle.std.specs.Prelude.{ℕ, zero, suc, ◌+◌, ◌*◌, ◌/◌, ◌%◌, List, [], ◌∷◌, ◌++◌, take, drop}

-- bytes as one number, the low byte first
abbrev pub number : List ℕ → ℕ
number [] = 0
number (b ∷ bs) = b + 256 * number bs

-- so many bytes of a number, the low byte first
unfoldable pub low_bytes : ℕ → ℕ → List ℕ
low_bytes zero value = []
low_bytes (suc size) value = value % 256 ∷ low_bytes size (value / 256)

-- fields of one size, one behind the other
unfoldable pub joined : ℕ → List ℕ → List ℕ
joined size [] = []
joined size (value ∷ values) = low_bytes size value ++ joined size values

-- so many fields of one size that bytes begin with
unfoldable pub parted : ℕ → ℕ → List ℕ → List ℕ
parted size zero bytes = []
parted size (suc n) bytes = number (take size bytes) ∷ parted size n (drop size bytes)

-- the field of a size at a place
abbrev pub field_at : ℕ → ℕ → List ℕ → ℕ
field_at at size bytes = number (take size (drop at bytes))
