-- What operations do, over the file: each row stands for operations that differ in their registers, or in what they
-- work out, alone. `to` is the place of the register that is put, n the number of bits of the data.
-- Assumes nothing.
use Rattle.std.specs.Prelude.{ℕ, ◌+◌, Bool, true, false, List, [], bit_and, bit_or, bit_xor, slice_index}
use Rattle.cpu.specs.declared.arithmetic.Combination.{Combination}
use Rattle.cpu.specs.declared.arithmetic.Modification.{Modification}
use Rattle.types.specs.declared.machine.Status.{Status}
use Rattle.types.specs.declared.machine.OperandPlace.{OperandPlace}
use Rattle.anywidth.specs.AnyWidth.{low, merged, is_negative, sum, difference, is_past, decremented, shifted_left}
use Rattle.anywidth.specs.AnyWidth.{shifted_right, is_odd, rotated}
use Rattle.semantics.specs.Addressing.{bits, pulled_at}
use Rattle.semantics.specs.Arithmetic.{with_carry, with_result, with_status, with_s, sum_status, difference_status}
use Rattle.semantics.specs.Effects.{Effect, effect, only, stores_of, bytes}
use Rattle.types.specs.Status.{status_of}
use Rattle.cpu.specs.File.{registers_of, put}

-- What is worked out: data, of any size, and the status.
pub record Worked : Type 0 where
  pub value : ℕ
  pub status : Status

abbrev pub worked : ℕ → Status → Worked
worked v s = record { value = v; status = s }

abbrev pub added : ℕ → ℕ → ℕ → Status → Worked
added n a v s = worked (sum a v s.carry) (sum_status n a v s)

abbrev pub subtracted : ℕ → ℕ → ℕ → Status → Worked
subtracted n a v s = worked (difference n a v s.carry) (difference_status n a v s)

-- what ADC, SBC, AND, ORA and EOR work out
abbrev pub combined : Combination → ℕ → ℕ → ℕ → Status → Worked
combined Combination.Add n a v s = added n a v s
combined Combination.Subtract n a v s = subtracted n a v s
combined Combination.And n a v s = worked (bit_and a v) s
combined Combination.Or n a v s = worked (bit_or a v) s
combined Combination.ExclusiveOr n a v s = worked (bit_xor a v) s

-- a shift with the bit that comes in; C is the bit that leaves
abbrev pub moved_left : ℕ → ℕ → Bool → Status → Worked
moved_left n v below s = worked (shifted_left v below) (with_carry (is_negative n v) s)

abbrev pub moved_right : ℕ → ℕ → Bool → Status → Worked
moved_right n v above s = worked (shifted_right n v above) (with_carry (is_odd v) s)

-- what ASL, LSR, ROL, ROR, INC and DEC work out
abbrev pub modified : Modification → ℕ → ℕ → Status → Worked
modified Modification.Decrement n v s = worked (decremented n v) s
modified Modification.Increment n v s = worked (v + 1) s
modified Modification.RotateLeft n v s = moved_left n v s.carry s
modified Modification.RotateRight n v s = moved_right n v s.carry s
modified Modification.ShiftLeft n v s = moved_left n v false s
modified Modification.ShiftRight n v s = moved_right n v false s

module _ (file : List ℕ) where
  abbrev pub status : Status
  status = status_of (slice_index file 7)

  abbrev pub putting : ℕ → ℕ → Status → Effect
  putting to v s = only (with_status s (put to v (registers_of file)))

  abbrev pub leaving : Status → Effect
  leaving s = only (with_status s (registers_of file))

  module _ (to : ℕ) (short : Bool) where
    abbrev n : ℕ
    n = bits short

    abbrev pub old : ℕ
    old = slice_index file to

    abbrev pub low_old : ℕ
    low_old = low n old

    -- data with N and Z
    abbrev pub loading : ℕ → Status → Effect
    loading v s = putting to (merged n old v) (with_result n v s)

    -- data with N and Z, and nothing kept above it: a transfer into an index
    abbrev pub transferring : ℕ → Status → Effect
    transferring v s = putting to (low n v) (with_result n v s)

    -- what was worked out, with N and Z
    abbrev pub loading_work : Worked → Effect
    loading_work w = loading w.value w.status

    abbrev pub combining : Combination → ℕ → Effect
    combining how v = loading_work (combined how n low_old v status)

    abbrev pub comparing : ℕ → Effect
    comparing v =
        leaving
        (with_result n (difference n low_old v true)
        (with_carry (is_past n (difference n low_old v true)) status))

    abbrev pub rotating : ℕ → Effect
    rotating k = putting to (merged n old (rotated n low_old k)) status

    -- what was worked out goes where the data came from
    abbrev pub modifying : OperandPlace → ℕ → Worked → Effect
    modifying OperandPlace.Memory address w =
        effect (with_status (with_result n w.value w.status) (registers_of file))
        (stores_of short address (low n w.value)) false
    modifying OperandPlace.Instruction address w = loading_work w
    modifying OperandPlace.Register address w = loading_work w

  -- a register off the stack, S behind it
  abbrev pub pulling : ℕ → Bool → ℕ → Status → Effect
  pulling to short v s =
      only (with_status s (with_s (pulled_at (registers_of file) (bytes short)) (put to v (registers_of file))))

  abbrev pub swapping : Bool → Effect
  swapping short =
      only
      (with_status (with_result (bits short) (slice_index file 1) status)
      (put 1 (merged (bits short) (slice_index file 1) (slice_index file 0))
      (put 0 (merged (bits short) (slice_index file 0) (slice_index file 1)) (registers_of file))))

  abbrev pub storing : Bool → ℕ → ℕ → Effect
  storing short address v = effect (registers_of file) (stores_of short address v) false

  abbrev pub branching : Bool → Effect
  branching taken = effect (registers_of file) [] taken
