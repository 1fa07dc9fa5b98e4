-- A state and its bytes are each other's inverse: a number is kept by its low bytes, fields of one size are kept one
-- behind the other, and the fields of a state are taken from where they are put.
-- Assumes nothing.
use mathlib.Core.Path.{◌≡◌, refl, sym, ap, ◌∙◌}
use mathlib.Core.List.{List, [], ◌∷◌}
use Prim.Native.Nat.{ℕ, ◌*◌, ◌^◌, ◌≤◌, ◌<◌}
use native.Mathlib.Omega.{arith}
use lib.ListN.{length, get_or, take, drop, length-append, length-drop}
use lib.Seq.{drop-drop, take-add, take_all}
use Rattle.fields.proofs.Fields.{joined_parted, length_joined, number_low, parted_from, parted_joined, parted_none}
use Rattle.types.specs.declared.machine.Core.{Core}
use Rattle.types.specs.declared.machine.State.{State}
use Rattle.types.specs.declared.machine.Status.{Status}
use Rattle.fields.specs.Fields.{number}
use Rattle.types.specs.Status.{status_of, number_of}
use Rattle.semantics.specs.Step.{call_limit}
use Rattle.execution.specs.StateBytes.{head_size, record_size, state_size}
use Rattle.fields.specs.Fields.{low_bytes, joined, parted, field_at}
use Rattle.execution.specs.StateBytes.{core_of, state_of, head_of, state_bytes, Keeps}
use Rattle.prelude.specs.Bytes.{AllBytes}
use Rattle.prelude.proofs.Bytes.{bytes_drop}
use Rattle.semantics.proofs.Status.{status_number, number_status, status_bound}

-- ---- a number and its low bytes

-- ---- fields of one size

-- ---- a state to bytes and back

entries_behind : (s : State) → drop head_size (state_bytes s) ≡ joined record_size s.calls
unfolding state_bytes head_of joined low_bytes
entries_behind s = refl

-- the open calls come back, whatever the registers
pub calls_back : (s : State) → length s.calls ≡ call_limit → ((k : ℕ) → get_or s.calls k 0 < 256 ^ record_size)
    → (state_of (state_bytes s)).calls ≡ s.calls
unfolding state_of
calls_back s long small = rw (entries_behind s, ← long) (parted_joined record_size s.calls small)

module _ (s : State) (k : Keeps s) where
  core_head : core_of (state_bytes s) ≡ s.core
  unfolding core_of state_bytes head_of joined low_bytes
  core_head = λ j. record {
    registers =
        record {
          a = number_low 2 s.core.registers.a k.registers.a j;
          b = number_low 2 s.core.registers.b k.registers.b j;
          x = number_low 2 s.core.registers.x k.registers.x j;
          y = number_low 2 s.core.registers.y k.registers.y j;
          s = number_low 2 s.core.registers.s k.registers.s j;
          dpr = number_low 2 s.core.registers.dpr k.registers.dpr j;
          dt = number_low 1 s.core.registers.dt k.registers.dt j;
          status = same_status j;
        };
    pc = number_low 2 s.core.pc k.pc j;
    pg = number_low 1 s.core.pg k.pg j;
    depth = number_low 2 s.core.depth k.depth j;
  }
    where
      given : Status
      given = s.core.registers.status

      same_status : status_of (number (low_bytes 2 (number_of given))) ≡ given
      same_status =
          ap status_of (number_low 2 (number_of given) (status_bound given k.registers.level)) ∙ number_status given

  pub state_bytes_lem : state_of (state_bytes s) ≡ s
  unfolding state_of
  state_bytes_lem = λ j. record { core = core_head j; calls = calls_back s k.calls k.entries j }

-- ---- bytes to a state and back

eight_words : (bytes : List ℕ)
    → parted 2 8 bytes
    ≡ field_at 0 2 bytes ∷ field_at 2 2 bytes ∷ field_at 4 2 bytes ∷ field_at 6 2 bytes ∷ field_at 8 2 bytes
    ∷ field_at 10 2 bytes ∷ field_at 12 2 bytes ∷ field_at 14 2 bytes ∷ []
eight_words bytes =
    rw (
      parted_from 2 7 0 bytes,
      parted_from 2 6 2 bytes,
      parted_from 2 5 4 bytes,
      parted_from 2 4 6 bytes,
      parted_from 2 3 8 bytes,
      parted_from 2 2 10 bytes,
      parted_from 2 1 12 bytes,
      parted_from 2 0 14 bytes,
      parted_none 2 (drop 16 bytes),
    )

two_bytes : (bytes : List ℕ) → parted 1 2 (drop 16 bytes) ≡ field_at 16 1 bytes ∷ field_at 17 1 bytes ∷ []
unfolding parted
two_bytes bytes = rw drop-drop

one_word : (bytes : List ℕ) → parted 2 1 (drop 18 bytes) ≡ field_at 18 2 bytes ∷ []
unfolding parted
one_word bytes = refl

head_core : (bytes : List ℕ) → AllBytes bytes → head_size ≤ length bytes → head_of (core_of bytes) ≡ take head_size
    bytes
unfolding head_of core_of
head_core bytes small room =
    rw (
      status_number (field_at 14 2 bytes),
      ← eight_words bytes,
      ← two_bytes bytes,
      ← one_word bytes,
      joined_parted 2 8 bytes small (omega arith),
      joined_parted 1 2 (drop 16 bytes) (bytes_drop 16 bytes small) (rw length-drop (omega arith)),
      joined_parted 2 1 (drop 18 bytes) (bytes_drop 18 bytes small) (rw length-drop (omega arith)),
      ← take-add 16 2 bytes,
    )
    (sym (take-add 18 2 bytes))

pub bytes_state : (bytes : List ℕ) → length bytes ≡ state_size → AllBytes bytes → state_bytes (state_of bytes) ≡ bytes
unfolding state_bytes state_of
bytes_state bytes long small =
    rw (
      head_core bytes small (omega arith),
      joined_parted record_size call_limit (drop head_size bytes) (bytes_drop head_size bytes small)
          (rw length-drop (omega arith)),
      ← take-add head_size (record_size * call_limit) bytes,
    )
    (take_all state_size bytes (omega arith))

-- ---- how many bytes a state has

head_length : (c : Core) → length (head_of c) ≡ head_size
unfolding head_of joined low_bytes
head_length c = refl

pub bytes_length : (s : State) → length s.calls ≡ call_limit → length (state_bytes s) ≡ state_size
unfolding state_bytes
bytes_length s whole =
    rw (
      length-append (head_of s.core) (joined record_size s.calls),
      head_length s.core,
      length_joined record_size s.calls,
      whole,
    )
