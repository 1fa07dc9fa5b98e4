-- The processor status register: 01, 'The places of C, Z, I, D, x, m, V, N belong to the status register and are named
-- with it'.
-- Assumes nothing.
use Rattle.std.specs.Prelude.{ℕ, ◌+◌, ◌*◌, ◌/◌, ◌%◌, Bool, eqb}
use Rattle.types.specs.declared.machine.Status.{Status}
use Rattle.prelude.specs.Choice.{bit}

-- manual 2.9: the place of each flag, as its bit's value
abbrev pub mask_c : ℕ
mask_c = 1

abbrev pub mask_z : ℕ
mask_z = 2

abbrev pub mask_i : ℕ
mask_i = 4

abbrev pub mask_d : ℕ
mask_d = 8

abbrev pub mask_x : ℕ
mask_x = 16

abbrev pub mask_m : ℕ
mask_m = 32

abbrev pub mask_v : ℕ
mask_v = 64

abbrev pub mask_n : ℕ
mask_n = 128

-- IPL lies above the flags, in three bits; the high byte is kept whole, so that a number with higher bits is known by
-- it
abbrev pub level_unit : ℕ
level_unit = 256

abbrev pub is_set : ℕ → ℕ → Bool
is_set mask n = eqb (n / mask % 2) 1

-- the status of a number
abbrev pub status_of : ℕ → Status
status_of n = record {
  carry = is_set mask_c n;
  zero = is_set mask_z n;
  disable = is_set mask_i n;
  decimal = is_set mask_d n;
  x = is_set mask_x n;
  m = is_set mask_m n;
  overflow = is_set mask_v n;
  negative = is_set mask_n n;
  level = n / level_unit;
}

-- the number of a status
abbrev pub number_of : Status → ℕ
number_of s =
    mask_c * bit s.carry + mask_z * bit s.zero + mask_i * bit s.disable + mask_d * bit s.decimal
    + mask_x * bit s.x + mask_m * bit s.m + mask_v * bit s.overflow + mask_n * bit s.negative
    + level_unit * s.level
