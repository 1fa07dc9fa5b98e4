-- A step keeps every register within its width, the open calls within their entries and RAM in bytes: an operation does
-- (Effects.antt), and a call opens no entry past the last. So the bytes of what a run leaves say the very state that it
-- left.
-- Assumes nothing.
use Rattle.types.specs.declared.code.Undecoded.{Undecoded}
use Rattle.std.specs.Prelude.{Ok, Err}
use mathlib.Core.Path.{◌≡◌, refl, ◌∙◌}
use mathlib.Core.Bool.{Bool, true, false}
use mathlib.Core.List.{List, [], ◌∷◌}
use Prim.Native.Nat.{ℕ, zero, suc, ◌^◌, ◌≤◌, ◌<◌}
use native.Mathlib.Nat.{one-le-pow, pow-le-pow_right}
use native.Mathlib.Omega.{arith}
use borrow.Author.Tests.{ltb-true}
use lib.Dec.{ltb}
use lib.ListN.{length, get_or, set, take, drop, length-take, length-set}
use Rattle.types.specs.declared.code.Kind.{Kind}
use Rattle.types.specs.declared.code.Flow.{Flow}
use Rattle.types.specs.declared.code.Instruction.{Instruction}
use Rattle.types.specs.Answers.{Decoded, Served, TestResult}
use Rattle.types.specs.declared.machine.Core.{Core}
use Rattle.types.specs.declared.machine.State.{State}
use Rattle.types.specs.declared.machine.Data.{Data}
use Rattle.types.specs.declared.machine.Store.{Store}
use Rattle.types.specs.declared.machine.Stop.{Stop}
use Rattle.types.specs.declared.machine.CallChange.{CallChange}
use Rattle.prelude.specs.Choice.{pick}
use Rattle.prelude.specs.Bytes.{AllBytes}
use Rattle.fields.specs.Fields.{number}
use Rattle.instructions.specs.Successors.{kind_number}
use Rattle.semantics.specs.Memory.{Memory, Act, Outcome, done, unmapped, evaluate, served, stored}
use Rattle.semantics.specs.Addressing.{pulled_at, data_of}
use Rattle.semantics.specs.Arithmetic.{with_s}
use Rattle.semantics.specs.Effects.{pushed_at, bytes}
use Rattle.semantics.specs.Step.{call_limit, call_record, fetched, Change, change, Plan, stops, changes, on_read}
use Rattle.semantics.specs.Step.{is_decimal, next, target, short, access, works, operates, pushes_return, return_bytes}
use Rattle.semantics.specs.Step.{calls, pulls_return, is_return, returns_to, plan_by, last_opened, plan, depth_after}
use Rattle.semantics.specs.Step.{calls_after, state_after, on_served, finish, on_decoded, step, calls_within}
use Rattle.semantics.specs.Step.{plan_by_within}
use Rattle.semantics.specs.Step.{step_within}
use Rattle.execution.specs.Run.{event, with_ram, history, state_left, ram_left, admission, ran, history_within}
use Rattle.execution.specs.StateBytes.{head_size, record_size, core_of, state_of, Keeps}
use Rattle.semantics.specs.Effects.{InWidth}
use Rattle.fields.specs.Fields.{parted}
use Rattle.prelude.proofs.Bytes.{bytes_drop, bytes_take}
use Rattle.fields.proofs.Fields.{number_bound}
use Rattle.acceptance.proofs.Widths.{kind_bits}
use Rattle.fields.proofs.Fields.{length_parted}
use Rattle.execution.proofs.Run.{onward, by_first_step, state_passes, ram_passes, admitted_ran, refused_ran}
use Rattle.semantics.proofs.Effects.{Comes, comes, SmallData, data_small, SmallStores, in_status, in_s, effect_fine}

-- ---- what a step leaves

-- A plan that keeps all: registers in their widths, bytes stored, a call opened below the limit, its entry in bytes.
abbrev Opens : ℕ → CallChange → Type 0
Opens depth CallChange.Keep = Unit {0}
Opens depth (CallChange.Open address kind) = (depth < call_limit) × (call_record address (kind_number kind) < 256 ^
    record_size)
Opens depth CallChange.Close = Unit {0}

abbrev Fits : ℕ → Plan → Type 0
Fits depth (stops stop) = Unit {0}
Fits depth (changes d) = InWidth d.registers × SmallStores d.stores × Opens depth d.calls

pick_fits : (depth : ℕ) (b : Bool) (d : Change) (stop : Stop) → (b ≡ true → Fits depth (changes d))
    → Fits depth (pick b (changes d) (stops stop))
pick_fits depth true d stop fits = fits refl
pick_fits depth false d stop fits = tt

module _ (c : Core) (i : Instruction) (m : Memory) (h : InWidth c.registers) (ram_bytes : AllBytes m.ram)
    (in_image : AllBytes m.image) where
  operates_fits : (goes : Bool → ℕ) → Fits c.depth (operates c i m goes)
  unfolding operates
  operates_fits goes =
      by (is_decimal (access c i) c.registers) (evaluate m reads)
      (comes m ram_bytes in_image SmallData reads (data_small i.entry.mode i.entry.accumulator
      c.registers (short c i) i.operand (access c i)))
    where
      reads : Act Data
      reads = data_of (access c i) i.entry.mode i.entry.accumulator c.registers (short c i) i.operand

      by : (b : Bool) (o : Outcome Data) → Comes SmallData o
          → Fits c.depth (pick b (stops Stop.Decimal) (on_read o (works c i goes)))
      by true o small = tt
      by false unmapped small = tt
      by false (done d) small =
          let e = effect_fine i.entry.mode i.entry.accumulator (short c i) i.operand (next c i) d
          c.registers h small i.entry.operation in
          (e.0, e.1, tt)

  return_small : (kind : Kind) → SmallStores (pushes_return c i kind)
  return_small Kind.ByRts = omega arith
  return_small Kind.ByRtl = omega arith

  calls_fit_lem : (kind : Kind) → Fits c.depth (calls c i kind)
  unfolding calls_within
  calls_fit_lem kind =
      pick_fits c.depth (ltb c.depth call_limit)
      (change (with_s (pushed_at c.registers (return_bytes kind)) c.registers) (target c i)
      (CallChange.Open (next c i) kind) (pushes_return c i kind))
      Stop.Deep (λ e. (
        in_s c.registers h _ (omega arith),
        return_small kind,
        (ltb-true c.depth call_limit e, omega (arith, kind_bits kind)),
      ))

  returns_fit : (entry : ℕ) (kind : Kind)
      → Fits c.depth (on_read (evaluate m (pulls_return c i kind)) (returns_to c i entry kind))
  unfolding returns_to
  returns_fit entry kind = by (evaluate m (pulls_return c i kind))
    where
      by : (o : Outcome ℕ) → Fits c.depth (on_read o (returns_to c i entry kind))
      by unmapped = tt
      by (done address) =
          pick_fits c.depth (is_return c i entry kind address)
          (change (with_s (pulled_at c.registers (return_bytes kind)) c.registers) address CallChange.Close [])
          Stop.Astray (λ _. (in_s c.registers h _ (omega arith), tt, tt))

  plan_fits : (entry : ℕ) (flow : Flow) → Fits c.depth (plan_by c i m entry flow)
  unfolding plan_by_within
  plan_fits entry Flow.Next = operates_fits (λ taken. next c i)
  plan_fits entry Flow.Branch = operates_fits (λ taken. pick taken (target c i) (next c i))
  plan_fits entry Flow.Jump = (h, tt, tt)
  plan_fits entry (Flow.Call kind) = calls_fit_lem kind
  plan_fits entry (Flow.Return kind) = returns_fit entry kind
  plan_fits entry Flow.Halt = tt

set_small : (l : List ℕ) (i v bound : ℕ) → v < bound → ((k : ℕ) → get_or l k 0 < bound)
    → (k : ℕ) → get_or (set l i v) k 0 < bound
set_small [] i v bound h all k = all k
set_small (x ∷ xs) zero v bound h all zero = h
set_small (x ∷ xs) zero v bound h all (suc k) = all (suc k)
set_small (x ∷ xs) (suc i) v bound h all zero = all 0
set_small (x ∷ xs) (suc i) v bound h all (suc k) = set_small xs i v bound h (λ j. all (suc j)) k

stored_small : (stores : List Store) (ram : List ℕ) → SmallStores stores → AllBytes ram → AllBytes (stored stores ram)
stored_small [] ram small h = h
stored_small (s ∷ rest) ram small h =
    stored_small rest (set ram s.address s.byte) small.1
    (set_small ram s.address s.byte 256 small.0 h)

-- a state within its bytes, and RAM of bytes
abbrev pub InBytes : State → List ℕ → Type 0
InBytes s ram = Keeps s × AllBytes ram

changed_keeps : (i : Instruction) (s : State) (d : Change) → Fits s.core.depth (changes d) → Keeps s
    → Keeps (state_after i s d)
changed_keeps i s d fits h =
    let after = by d.calls fits.2 in
    record {
      registers = in_status d.registers fits.0 _ fits.0.level;
      pc = omega arith;
      pg = omega arith;
      depth = after.0;
      calls = after.1;
      entries = after.2;
    }
  where
    by : (change : CallChange) → Opens s.core.depth change
        → (depth_after change s.core.depth < 65_536)
        × (length (calls_after change s.core.depth s.calls) ≡ call_limit)
        × ((k : ℕ) → get_or (calls_after change s.core.depth s.calls) k 0 < 256 ^ record_size)
    by CallChange.Keep o = (h.depth, h.calls, h.entries)
    by (CallChange.Open address kind) o = (
      omega arith,
      length-set s.calls s.core.depth (call_record address (kind_number kind)) ∙ h.calls,
      set_small s.calls s.core.depth (call_record address (kind_number kind)) (256 ^ record_size) o.1 h.entries,
    )
    by CallChange.Close o = (omega arith, h.calls, h.entries)

pub step_keeps : (m : Memory) (s : State) → AllBytes m.image → InBytes s m.ram
    → InBytes (step m s).state (step m s).ram
unfolding step_within
step_keeps m s image h = by (fetched m s.core)
  where
    served_so : (i : Instruction) (d : Change) (v : Served) → Fits s.core.depth (changes d)
        → InBytes (on_served v i d m s).state (on_served v i d m s).ram
    served_so i d (Ok _) f = (changed_keeps i s d f h.0, stored_small d.stores m.ram f.1 h.1)
    served_so i d (Err stop) f = h

    planned_so : (i : Instruction) (p : Plan) → Fits s.core.depth p
        → InBytes (finish p i m s).state (finish p i m s).ram
    planned_so i (stops stop) f = h
    planned_so i (changes d) f = served_so i d (served m d.stores) f

    by : (d : Decoded) → InBytes (on_decoded d m s).state (on_decoded d m s).ram
    by (Err Undecoded.CutOff) = h
    by (Err Undecoded.NotCarried) = h
    by (Ok i) =
        planned_so i (plan m s i)
        (plan_fits s.core i m h.0.registers h.1 image (last_opened s) i.entry.flow)

-- ---- what a run leaves

history_keeps : (n : ℕ) (m : Memory) (s : State) → AllBytes m.image → InBytes s m.ram
    → InBytes (state_left s (history m s n)) (ram_left m.ram (history m s n))
unfolding history_within
history_keeps zero m s image h = h
history_keeps (suc n) m s image h =
    by_first_step m s n (λ events. InBytes (state_left s events) (ram_left m.ram events))
    (λ c. rw (
      state_passes s (event m s) (onward m s n) c,
      ram_passes m.ram (event m s) (onward m s n) c,
    )
    (history_keeps n (with_ram (step m s).ram m) (step m s).state image (step_keeps m s image h)))
    (λ c. rw c h)

pub run_keeps : (m : Memory) (s : State) (n : ℕ) → AllBytes m.image → InBytes s m.ram
    → InBytes (ran m s n).state (ran m s n).ram
run_keeps m s n image h = by (admission m s n) refl
  where
    by : (a : TestResult) → admission m s n ≡ a → InBytes (ran m s n).state (ran m s n).ram
    by (Ok _) a = rw (admitted_ran m s n a).1 (history_keeps n m s image h)
    by (Err why) a = rw (refused_ran m s n why a).1 h

-- ---- what bytes say

field_small : (size : ℕ) (bytes : List ℕ) → AllBytes bytes → number (take size bytes) < 256 ^ size
field_small size bytes small =
    let part = take size bytes in
    let few : length part ≤ size = rw (length-take size bytes) (omega arith) in
    let most : 256 ^ length part ≤ 256 ^ size = pow-le-pow_right (omega arith) few in
    omega (arith, most, number_bound part (bytes_take size bytes small))

parted_small : (size n : ℕ) (bytes : List ℕ) → AllBytes bytes → (k : ℕ) → get_or (parted size n bytes) k 0 < 256 ^ size
unfolding parted
parted_small size zero bytes small k = omega (arith, one-le-pow size 256 (omega arith))
parted_small size (suc n) bytes small zero = field_small size bytes small
parted_small size (suc n) bytes small (suc k) =
    parted_small size n (drop size bytes) (bytes_drop size bytes small) k

-- the state of bytes is kept by them
pub given_keeps : (bytes : List ℕ) → AllBytes bytes → Keeps (state_of bytes)
unfolding state_of core_of
given_keeps bytes small = record {
  registers =
      record {
        a = word 0;
        b = word 2;
        x = word 4;
        y = word 6;
        s = word 8;
        dpr = word 12;
        dt = byte 17;
        level = omega (arith, word 14);
      };
  pc = word 10;
  pg = byte 16;
  depth = word 18;
  calls = length_parted record_size call_limit (drop head_size bytes);
  entries = parted_small record_size call_limit (drop head_size bytes) (bytes_drop head_size bytes small);
}
  where
    word : (at : ℕ) → number (take 2 (drop at bytes)) < 65_536
    word at = field_small 2 (drop at bytes) (bytes_drop at bytes small)

    byte : (at : ℕ) → number (take 1 (drop at bytes)) < 256
    byte at = field_small 1 (drop at bytes) (bytes_drop at bytes small)
