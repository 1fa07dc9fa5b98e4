-- What operations do to registers and flags, n being the bits of the data: manual 4.2, an instruction's 'Operation' and
-- 'Status flags'. 01: a result 'has the destination's length', and 'the high byte stays as it was'; 02, R-3, takes
-- transfers into an index out of that.
-- Assumes nothing.
use Rattle.std.specs.Prelude.{ℕ, Bool, true, not, ◌&&◌, ◌||◌, eqb}
use Rattle.std.specs.Int.Bits.{bit_and, bit_or, bit_xor}
use Rattle.types.specs.declared.code.Accumulator.{Accumulator}
use Rattle.types.specs.declared.machine.Status.{Status}
use Rattle.types.specs.declared.machine.Registers.{Registers}
use Rattle.types.specs.Status.{mask_c, mask_z, mask_i, mask_d, mask_v, mask_n, is_set}
use Rattle.anywidth.specs.AnyWidth.{low, merged, is_negative, sum, difference, is_past, sum_overflows}
use Rattle.anywidth.specs.AnyWidth.{difference_overflows}
use Rattle.anywidth.specs.AnyWidth.{rotated}
use Rattle.semantics.specs.Addressing.{accumulator_of}

-- ---- the status with some flags changed
abbrev pub with_carry : Bool → Status → Status
with_carry flag s = record {
  carry = flag;
  zero = s.zero;
  disable = s.disable;
  decimal = s.decimal;
  x = s.x;
  m = s.m;
  overflow = s.overflow;
  negative = s.negative;
  level = s.level;
}

abbrev pub with_disable : Bool → Status → Status
with_disable flag s = record {
  carry = s.carry;
  zero = s.zero;
  disable = flag;
  decimal = s.decimal;
  x = s.x;
  m = s.m;
  overflow = s.overflow;
  negative = s.negative;
  level = s.level;
}

abbrev pub with_overflow : Bool → Status → Status
with_overflow flag s = record {
  carry = s.carry;
  zero = s.zero;
  disable = s.disable;
  decimal = s.decimal;
  x = s.x;
  m = s.m;
  overflow = flag;
  negative = s.negative;
  level = s.level;
}

-- the widths, which no operation changes but through its width effect
abbrev pub with_widths : Bool → Bool → Status → Status
with_widths m x s = record {
  carry = s.carry;
  zero = s.zero;
  disable = s.disable;
  decimal = s.decimal;
  x = x;
  m = m;
  overflow = s.overflow;
  negative = s.negative;
  level = s.level;
}

-- 'N: Set to 1 when bit 15 (or bit 7 ..) of the operation result is 1', 'Z: Set to 1 when the result of operation is 0'
abbrev pub with_result : ℕ → ℕ → Status → Status
with_result n v s = record {
  carry = s.carry;
  zero = eqb (low n v) 0;
  disable = s.disable;
  decimal = s.decimal;
  x = s.x;
  m = s.m;
  overflow = s.overflow;
  negative = is_negative n (low n v);
  level = s.level;
}

-- SEP and CLP: 'The specified flags are set' or cleared. 'IPL is not affected'; m and x are the width effect's.
abbrev pub with_flags_set : ℕ → Status → Status
with_flags_set mask s = record {
  carry = is_set mask_c mask || s.carry;
  zero = is_set mask_z mask || s.zero;
  disable = is_set mask_i mask || s.disable;
  decimal = is_set mask_d mask || s.decimal;
  x = s.x;
  m = s.m;
  overflow = is_set mask_v mask || s.overflow;
  negative = is_set mask_n mask || s.negative;
  level = s.level;
}

abbrev pub with_flags_cleared : ℕ → Status → Status
with_flags_cleared mask s = record {
  carry = not (is_set mask_c mask) && s.carry;
  zero = not (is_set mask_z mask) && s.zero;
  disable = not (is_set mask_i mask) && s.disable;
  decimal = not (is_set mask_d mask) && s.decimal;
  x = s.x;
  m = s.m;
  overflow = not (is_set mask_v mask) && s.overflow;
  negative = not (is_set mask_n mask) && s.negative;
  level = s.level;
}

-- ---- the registers with one changed
abbrev pub registers : ℕ → ℕ → ℕ → ℕ → ℕ → ℕ → ℕ → Status → Registers
registers a b x y s dpr dt status = record {
  a = a;
  b = b;
  x = x;
  y = y;
  s = s;
  dpr = dpr;
  dt = dt;
  status = status;
}

abbrev pub with_a : ℕ → Registers → Registers
with_a v r = registers v r.b r.x r.y r.s r.dpr r.dt r.status

abbrev pub with_b : ℕ → Registers → Registers
with_b v r = registers r.a v r.x r.y r.s r.dpr r.dt r.status

abbrev pub with_x : ℕ → Registers → Registers
with_x v r = registers r.a r.b v r.y r.s r.dpr r.dt r.status

abbrev pub with_y : ℕ → Registers → Registers
with_y v r = registers r.a r.b r.x v r.s r.dpr r.dt r.status

abbrev pub with_s : ℕ → Registers → Registers
with_s v r = registers r.a r.b r.x r.y v r.dpr r.dt r.status

abbrev pub with_dpr : ℕ → Registers → Registers
with_dpr v r = registers r.a r.b r.x r.y r.s v r.dt r.status

abbrev pub with_dt : ℕ → Registers → Registers
with_dt v r = registers r.a r.b r.x r.y r.s r.dpr v r.status

abbrev pub with_status : Status → Registers → Registers
with_status s r = registers r.a r.b r.x r.y r.s r.dpr r.dt s

-- N and Z of data
abbrev pub flagged : ℕ → ℕ → Registers → Registers
flagged n v r = with_status (with_result n v r.status) r

-- a register gets data of a width, N and Z are set by it
abbrev pub loads_a : ℕ → ℕ → Registers → Registers
loads_a n v r = flagged n v (with_a (merged n r.a v) r)

abbrev pub loads_b : ℕ → ℕ → Registers → Registers
loads_b n v r = flagged n v (with_b (merged n r.b v) r)

abbrev pub loads_x : ℕ → ℕ → Registers → Registers
loads_x n v r = flagged n v (with_x (merged n r.x v) r)

abbrev pub loads_y : ℕ → ℕ → Registers → Registers
loads_y n v r = flagged n v (with_y (merged n r.y v) r)

-- A register is transferred into an index, which `put` puts; N and Z are set by the data. 01: 'Manual 2.2 and its note
-- under implied addressing differ on the high byte of an index under x=1; 2.2 decides'. 02, R-3, overrules that for
-- transfers: 'The manual's note under implied addressing now decides' (L 228), 'the upper byte becomes 00'.
abbrev pub transfers_into : (ℕ → Registers → Registers) → ℕ → ℕ → Registers → Registers
transfers_into put n v r = flagged n v (put (low n v) r)

-- the accumulator that an entry names, A where it names none
abbrev pub loads : Accumulator → ℕ → ℕ → Registers → Registers
loads Accumulator.Unnamed = loads_a
loads Accumulator.A = loads_a
loads Accumulator.B = loads_b

-- ---- addition and subtraction, comparison, logic
-- ADC and SBC
abbrev pub sum_status : ℕ → ℕ → ℕ → Status → Status
sum_status n a v s =
    with_overflow (sum_overflows n a v s.carry) (with_carry (is_past n (sum a v s.carry)) s)

abbrev pub difference_status : ℕ → ℕ → ℕ → Status → Status
difference_status n a v s =
    with_overflow (difference_overflows n a v s.carry) (with_carry (is_past n (difference n a v s.carry)) s)

abbrev pub adds : Accumulator → ℕ → ℕ → Registers → Registers
adds named n v r =
    loads named n (sum (low n (accumulator_of named r)) v r.status.carry)
    (with_status (sum_status n (low n (accumulator_of named r)) v r.status) r)

abbrev pub subtracts : Accumulator → ℕ → ℕ → Registers → Registers
subtracts named n v r =
    loads named n (difference n (low n (accumulator_of named r)) v r.status.carry)
    (with_status (difference_status n (low n (accumulator_of named r)) v r.status) r)

-- CMP, CPX, CPY: 'C: Set to 1 if the result of operation is 0 or larger'
abbrev pub compares : ℕ → ℕ → ℕ → Registers → Registers
compares n a v r =
    flagged n (difference n (low n a) v true)
    (with_status (with_carry (is_past n (difference n (low n a) v true)) r.status) r)

-- AND, ORA, EOR
abbrev pub ands : Accumulator → ℕ → ℕ → Registers → Registers
ands named n v r = loads named n (bit_and (low n (accumulator_of named r)) v) r

abbrev pub ors : Accumulator → ℕ → ℕ → Registers → Registers
ors named n v r = loads named n (bit_or (low n (accumulator_of named r)) v) r

abbrev pub exclusive_ors : Accumulator → ℕ → ℕ → Registers → Registers
exclusive_ors named n v r = loads named n (bit_xor (low n (accumulator_of named r)) v) r

-- RLA: 'rotate n bits to left', through no flag
abbrev pub rotates_a : ℕ → ℕ → Registers → Registers
rotates_a n k r = with_a (merged n r.a (rotated n (low n r.a) k)) r

-- XAB: 'Swaps the contents of the accumulators A and B', N and Z of A
abbrev pub swaps : ℕ → Registers → Registers
swaps n r = loads_a n r.b (with_b (merged n r.b r.a) r)
