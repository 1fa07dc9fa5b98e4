-- A state is written whole: ten words are the bytes before the entries, with PG and DT as one of them, and those bytes
-- with the entries behind them fill all bytes that are lent.
-- Assumes nothing.
use mathlib.Core.Path.{◌≡◌, refl}
use mathlib.Core.List.{List, [], ◌∷◌, ◌++◌, append-nil}
use Prim.Native.Nat.{ℕ, ◌+◌, ◌*◌, ◌/◌, ◌%◌, ◌<◌}
use native.Mathlib.Omega.{arith}
use lib.ListN.{length, length-append, drop_of_length-le}
use lib.Seq.{sets, sets-eq}
use Rattle.types.specs.declared.machine.Core.{Core}
use Rattle.types.specs.declared.machine.State.{State}
use Rattle.types.specs.Status.{number_of}
use Rattle.semantics.specs.Step.{call_limit}
use Rattle.execution.specs.StateBytes.{head_size, record_size, state_size, head_of, state_bytes}
use Rattle.fields.specs.Fields.{low_bytes, joined}
use Rattle.fields.proofs.Fields.{length_joined}
use Rattle.fields.proofs.Writing.{sets_append}

pub words_head : (c : Core) (status middle : ℕ) → status ≡ number_of c.registers.status
    → middle ≡ c.pg + 256 * c.registers.dt → c.pg < 256
    → joined 2
    (c.registers.a ∷ c.registers.b ∷ c.registers.x ∷ c.registers.y ∷ c.registers.s ∷ c.pc ∷ c.registers.dpr
    ∷ status ∷ middle ∷ c.depth ∷ [])
    ≡ head_of c
unfolding head_of joined low_bytes
words_head c status middle e-status e-middle small =
    let low : middle % 256 ≡ c.pg % 256 = omega arith in
    let high : middle / 256 ≡ c.registers.dt = omega arith in
    rw (e-status, low, high)

head_long : (c : Core) → length (head_of c) ≡ head_size
unfolding head_of joined low_bytes
head_long c = refl

pub put_whole : (bytes : List ℕ) (s : State) (words first second : List ℕ) → length bytes ≡ state_size
    → length s.calls ≡ call_limit → joined 2 words ≡ head_of s.core → first ≡ sets bytes 0 (joined 2 words)
    → second ≡ sets first head_size (joined record_size s.calls) → second ≡ state_bytes s
unfolding state_bytes
put_whole bytes s words first second long calls e-words e-first e-second =
    let head = head_of s.core in
    let entries = joined record_size s.calls in
    let size : length (head ++ entries) ≡ state_size =
    rw (length-append head entries, head_long s.core, length_joined record_size s.calls, calls) refl in
    let joint : second ≡ sets bytes 0 (head ++ entries) =
    rw (e-second, e-first, e-words, sets_append bytes 0 head entries, head_long s.core) refl in
    rw (
      joint,
      sets-eq (head ++ entries) bytes 0 (omega (arith, size)),
      size,
      drop_of_length-le bytes {i = state_size} (omega arith),
      append-nil (head ++ entries),
    ) refl
