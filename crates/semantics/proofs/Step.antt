-- The bytes that a step fetches, each at its own address, are those of the image from there on: an image lies within
-- the 24-bit addresses, so that they wrap only behind its last byte, where no image byte lies. And the order of a
-- step's stops.
-- Assumes nothing.
use Rattle.types.specs.declared.code.Undecoded.{Undecoded}
use Rattle.std.specs.Prelude.{Ok, Err}
use mathlib.Core.Path.{◌≡◌, refl, sym, ap, ap₂, ◌∙◌}
use mathlib.Core.Logic.{◌⊎◌, inl, inr}
use mathlib.Core.Bool.{Bool, true, false}
use mathlib.Core.List.{List, [], ◌∷◌}
use Prim.Native.Nat.{ℕ, zero, suc, ◌+◌, ◌-◌, ◌/◌, ◌%◌, ◌≤◌, ◌<◌}
use native.Mathlib.Nat.{eq-or-lt_of_le, mod-eq_of_lt}
use native.Mathlib.Omega.{arith}
use lib.Dec.{ltb}
use lib.ListN.{length, get_or, drop, drop_of_length-le}
use lib.Seq.{drop-cons}
use borrow.Author.Tests.{lt-ltb, le-ltb, le-leb, lt-leb, ltb-true, ltb-false}
use Rattle.types.specs.declared.code.Kind.{Kind}
use Rattle.types.specs.declared.code.Flow.{Flow}
use Rattle.types.specs.declared.code.Instruction.{Instruction}
use Rattle.types.specs.Answers.{Decoded, Served}
use Rattle.types.specs.declared.machine.Registers.{Registers}
use Rattle.types.specs.declared.machine.Core.{Core}
use Rattle.types.specs.declared.machine.State.{State}
use Rattle.types.specs.declared.machine.Store.{Store}
use Rattle.types.specs.declared.machine.Stop.{Stop}
use Rattle.types.specs.declared.machine.CallChange.{CallChange}
use Rattle.types.specs.declared.machine.Data.{Data}
use Rattle.prelude.specs.Choice.{pick, bit}
use Rattle.types.specs.Addresses.{address_limit}
use Rattle.instructions.specs.Successors.{next_address}
use Rattle.semantics.specs.Memory.{Memory, memory, is_in_image, Outcome, done, unmapped, evaluate, served_at, served}
use Rattle.semantics.specs.Addressing.{operand_use_of, data_of, pulled_at}
use Rattle.semantics.specs.Arithmetic.{with_s}
use Rattle.semantics.specs.Effects.{store, stores_of, push_of, pushed_at}
use Rattle.instructions.specs.Decode.{decode}
use Rattle.semantics.specs.Step.{call_limit, place_of, bytes_from, fetched, stops, is_decimal, operates, calls_within}
use Rattle.semantics.specs.Step.{pulls_return, plan_by, plan_by_within, stopped, returns_to, return_bytes, next, target}
use Rattle.semantics.specs.Step.{short, access, works, pushes_return, is_return, Change, change, changes, Plan}
use Rattle.semantics.specs.Step.{plan_within, on_read, depth_after, on_served, finish, on_decoded_within, last_opened}
use Rattle.semantics.specs.Step.{step_within, answer_of, plan, on_decoded, step, is_completed}
use Rattle.instructions.proofs.Decode.{decode_nothing}

module _ (m : Memory) where
  -- no byte from an address outside the image
  pub none_outside : (a n : ℕ) → is_in_image m a ≡ false → bytes_from m a n ≡ []
  unfolding bytes_from
  none_outside a zero h = refl
  none_outside a (suc n) h = rw h refl

  module _ (whole : m.base + length m.image ≤ address_limit) (small : length m.image < address_limit) where
    pub is_inside_lem : (o : ℕ) → o < length m.image → is_in_image m (m.base + o) ≡ true
    is_inside_lem o h =
        rw (le-leb m.base (m.base + o) (omega arith))
        (lt-ltb (m.base + o - m.base) (length m.image) (omega arith))

    -- the address behind the last byte is not the image's, whether it wraps or not
    behind : (a : ℕ) → a ≡ m.base + length m.image → is_in_image m (a % address_limit) ≡ false
    behind a e = by (eq-or-lt_of_le whole)
      where
        by : (m.base + length m.image ≡ address_limit) ⊎ (m.base + length m.image < address_limit)
            → is_in_image m (a % address_limit) ≡ false
        by (inl end) = rw (e, end, lt-leb m.base 0 (omega arith)) refl
        by (inr before) =
            rw (
              e,
              mod-eq_of_lt before,
              le-leb m.base (m.base + length m.image) (omega arith),
              le-ltb (m.base + length m.image - m.base) (length m.image) (omega arith),
            ) refl

    pub bytes_inside : (n o : ℕ) → o < length m.image → length m.image ≤ o + n
        → bytes_from m (m.base + o) n ≡ drop o m.image
    unfolding bytes_from
    bytes_inside zero o h enough = absurd (omega arith)
    bytes_inside (suc n) o h enough =
        rw (is_inside_lem o h, drop-cons m.image o 0 h)
        (ap₂ (λ b bs. b ∷ bs) (ap (λ k. get_or m.image k 0) back)
        (rest (eq-or-lt_of_le h) (λ further. bytes_inside n (suc o) further (omega arith))))
      where
        back : m.base + o - m.base ≡ o
        back = omega arith

        on : m.base + o + 1 ≡ m.base + suc o
        on = omega arith

        within : suc o < length m.image → m.base + o + 1 < address_limit
        within more = omega arith

        rest : (suc o ≡ length m.image) ⊎ (suc o < length m.image)
            → (suc o < length m.image → bytes_from m (m.base + suc o) n ≡ drop (suc o) m.image)
            → bytes_from m (next_address (m.base + o) 1) n ≡ drop (suc o) m.image
        rest (inl last) further =
            none_outside ((m.base + o + 1) % address_limit) n (behind (m.base + o + 1) (omega arith))
            ∙ sym (drop_of_length-le m.image {i = suc o} (omega arith))
        rest (inr more) further = rw (mod-eq_of_lt (within more), on) (further more)

    -- from an address at the base or above, inside the image or not
    pub bytes_from_lem : (a : ℕ) → m.base ≤ a → bytes_from m a (length m.image) ≡ drop (a - m.base) m.image
    bytes_from_lem a h = by (ltb (a - m.base) (length m.image)) refl
      where
        again : m.base + (a - m.base) ≡ a
        again = omega arith

        by : (b : Bool) → ltb (a - m.base) (length m.image) ≡ b
            → bytes_from m a (length m.image) ≡ drop (a - m.base) m.image
        by true e =
            ap (λ k. bytes_from m k (length m.image)) (sym again)
            ∙ bytes_inside (length m.image) (a - m.base) (ltb-true _ _ e) (omega arith)
        by false e =
            none_outside a (length m.image) (rw (le-leb m.base a h) e)
            ∙ sym (drop_of_length-le m.image {i = a - m.base} (ltb-false _ _ e))

-- what is fetched under the image, and from the base on
module _ (ram image : List ℕ) (base : ℕ) (c : Core) (place : ℕ) (there : place ≡ place_of c) where
  pub fetched_under : place < base → Err Undecoded.CutOff ≡ fetched (memory ram image base) c
  fetched_under h =
      rw (← there, none_outside (memory ram image base) place (length image) (rw (lt-leb base place h) refl))
      (decode_nothing [] _ _ refl)

  pub fetched_from : base + length image ≤ address_limit → length image < address_limit → base ≤ place
      → (d : Decoded) (m x : ℕ) → m ≡ bit c.registers.status.m → x ≡ bit c.registers.status.x
      → d ≡ decode (drop (place - base) image) m x → d ≡ fetched (memory ram image base) c
  fetched_from whole small h d m x is_m is_x e =
      rw (e, is_m, is_x, ← there, bytes_from_lem (memory ram image base) whole small place h) refl

-- ---- the order of stops, as laws of the definition

-- 20, then 21, before all else: what is fetched decides
pub cut_off_first : (m : Memory) (s : State) → fetched m s.core ≡ Err Undecoded.CutOff
    → step m s ≡ stopped Stop.Outside m s
unfolding step_within
cut_off_first m s h = rw h refl

pub uncarried_first : (m : Memory) (s : State) → fetched m s.core ≡ Err Undecoded.NotCarried
    → step m s ≡ stopped Stop.Uncarried m s
unfolding step_within
uncarried_first m s h = rw h refl

-- then 22, of STP and WIT alone
pub halt_first : (m : Memory) (s : State) (i : Instruction) → fetched m s.core ≡ Ok i
    → i.entry.flow ≡ Flow.Halt → step m s ≡ stopped Stop.Halt m s
unfolding step_within plan_by_within
halt_first m s i h flow = rw (h, flow) refl

-- 27 before any read: whatever memory holds
pub decimal_first : (m : Memory) (c : Core) (i : Instruction) (goes : Bool → ℕ)
    → is_decimal (operand_use_of i.entry.operation) c.registers ≡ true → operates c i m goes ≡ stops Stop.Decimal
unfolding operates
decimal_first m c i goes h = rw h refl

-- 24 only after the pulls: a byte that is not mapped decides before
pub pulls_first : (m : Memory) (c : Core) (i : Instruction) (open-call : ℕ) (kind : Kind)
    → evaluate m (pulls_return c i kind) ≡ unmapped → plan_by c i m open-call (Flow.Return kind) ≡ stops Stop.Unmapped
unfolding plan_by_within
pulls_first m c i open-call kind h = rw h refl

-- 25 before any push: whatever could be served
pub deep_first : (m : Memory) (c : Core) (i : Instruction) (open-call : ℕ) (kind : Kind)
    → ltb c.depth call_limit ≡ false → plan_by c i m open-call (Flow.Call kind) ≡ stops Stop.Deep
unfolding plan_by_within calls_within
deep_first m c i open-call kind h = rw h refl

-- the first store that can't be served decides
pub first_unserved : (m : Memory) (a : Store) (rest : List Store) (stop : Stop)
    → served_at m a.address ≡ Err stop
    → served m (a ∷ rest) ≡ Err stop
first_unserved m a rest stop h = rw h refl

-- a word goes low byte first, a push high byte first
pub low_first : (short : Bool) (address v : ℕ) → get_or (stores_of short address v) 0 (store 0 0) ≡ store address v
low_first true address v = refl
low_first false address v = refl

pub high_first : (v : ℕ) (r : Registers) → get_or (push_of false v r) 0 (store 0 0) ≡ store r.s (v / 256)
high_first v r = refl

-- ---- the open calls stay within their limit

-- a change opens a call only where fewer are open than the limit
abbrev pub Opens : ℕ → CallChange → ℕ → Type 0
Opens limit CallChange.Keep depth = Unit {0}
Opens limit (CallChange.Open address kind) depth = depth < limit
Opens limit CallChange.Close depth = Unit {0}

abbrev pub PlanOpens : ℕ → Plan → ℕ → Type 0
PlanOpens limit (stops stop) depth = Unit {0}
PlanOpens limit (changes d) depth = Opens limit d.calls depth

pub opens_below : (limit : ℕ) (c : Core) (i : Instruction) (m : Memory) (opened : ℕ) (flow : Flow)
    → PlanOpens limit (plan_by_within c i limit m opened flow) c.depth
unfolding plan_by_within operates calls_within returns_to
opens_below limit c i m opened = by
  where
    decimal : Bool
    decimal = is_decimal (access c i) c.registers

    asked : Outcome Data
    asked =
        evaluate m (data_of (access c i) i.entry.mode i.entry.accumulator c.registers (short c i)
        i.operand)

    works_so : (b : Bool) (o : Outcome Data) (goes : Bool → ℕ)
        → PlanOpens limit (pick b (stops Stop.Decimal) (on_read o (works c i goes))) c.depth
    works_so true o goes = tt
    works_so false unmapped goes = tt
    works_so false (done d) goes = tt

    calls_so : (kind : Kind) (b : Bool) → ltb c.depth limit ≡ b → (d : Change)
        → d.calls ≡ CallChange.Open (next c i) kind
        → PlanOpens limit (pick b (changes d) (stops Stop.Deep)) c.depth
    calls_so kind true e d same = rw same (ltb-true c.depth limit e)
    calls_so kind false e d same = tt

    returns_so : (b : Bool) (after : Registers) (address : ℕ)
        → PlanOpens limit (pick b (changes (change after address CallChange.Close [])) (stops Stop.Astray)) c.depth
    returns_so true after address = tt
    returns_so false after address = tt

    pulls_so : (kind : Kind) (o : Outcome ℕ) → PlanOpens limit (on_read o (returns_to c i opened kind)) c.depth
    pulls_so kind unmapped = tt
    pulls_so kind (done address) =
        returns_so (is_return c i opened kind address)
        (with_s (pulled_at c.registers (return_bytes kind)) c.registers) address

    by : (flow : Flow) → PlanOpens limit (plan_by_within c i limit m opened flow) c.depth
    by Flow.Next = works_so decimal asked (λ taken. next c i)
    by Flow.Branch = works_so decimal asked (λ taken. pick taken (target c i) (next c i))
    by Flow.Jump = tt
    by (Flow.Call kind) =
        calls_so kind (ltb c.depth limit) refl
        (change (with_s (pushed_at c.registers (return_bytes kind)) c.registers) (target c i)
        (CallChange.Open (next c i) kind) (pushes_return c i kind)) refl
    by (Flow.Return kind) = pulls_so kind (evaluate m (pulls_return c i kind))
    by Flow.Halt = tt

depth_after_lem : (limit : ℕ) (change : CallChange) (depth : ℕ) → Opens limit change depth → depth ≤ limit
    → depth_after change depth ≤ limit
depth_after_lem limit CallChange.Keep depth o h = h
depth_after_lem limit (CallChange.Open address kind) depth o h = omega arith
depth_after_lem limit CallChange.Close depth o h = omega arith

pub depth_kept : {limit : ℕ} (m : Memory) (s : State) → s.core.depth ≤ limit
    → (step_within limit m s).state.core.depth ≤ limit
unfolding step_within
depth_kept {limit} m s h = by (fetched m s.core)
  where
    serves_so : (i : Instruction) (d : Change) (v : Served) → Opens limit d.calls s.core.depth
        → (on_served v i d m s).state.core.depth ≤ limit
    serves_so i d (Ok _) o = depth_after_lem limit d.calls s.core.depth o h
    serves_so i d (Err stop) o = h

    plans_so : (i : Instruction) (p : Plan) → PlanOpens limit p s.core.depth
        → (finish p i m s).state.core.depth ≤ limit
    plans_so i (stops stop) o = h
    plans_so i (changes d) o = serves_so i d (served m d.stores) o

    by : (d : Decoded) → (on_decoded_within limit d m s).state.core.depth ≤ limit
    by (Err Undecoded.CutOff) = h
    by (Err Undecoded.NotCarried) = h
    by (Ok i) =
        plans_so i (plan_within limit m s i) (opens_below limit s.core i m (last_opened s) i.entry.flow)

-- a stop leaves state and RAM as given
pub stop_leaves : (m : Memory) (s : State) (stop : Stop)
    → ((stopped stop m s).state ≡ s) × ((stopped stop m s).ram ≡ m.ram)
stop_leaves m s stop = (refl, refl)

pub completed_stops : true ≡ false → ⊥
completed_stops e = let z : ◌≡◌ {A = ℕ} 0 1 = cc in absurd (omega arith)

module _ (m : Memory) (s : State) where
  changes_complete : (change : CallChange) → is_completed (answer_of change) ≡ true
  changes_complete CallChange.Keep = refl
  changes_complete (CallChange.Open address kind) = refl
  changes_complete CallChange.Close = refl

  pub stopped_leaves : is_completed (step m s).answer ≡ false → ((step m s).state ≡ s) × ((step m s).ram ≡ m.ram)
  unfolding step_within
  stopped_leaves = by (fetched m s.core)
    where
      served_so : (i : Instruction) (d : Change) (v : Served) → is_completed (on_served v i d m s).answer ≡ false
          → ((on_served v i d m s).state ≡ s) × ((on_served v i d m s).ram ≡ m.ram)
      served_so i d (Ok _) e = absurd (completed_stops (sym (changes_complete d.calls) ∙ e))
      served_so i d (Err stop) e = (refl, refl)

      planned_so : (i : Instruction) (p : Plan) → is_completed (finish p i m s).answer ≡ false
          → ((finish p i m s).state ≡ s) × ((finish p i m s).ram ≡ m.ram)
      planned_so i (stops stop) e = (refl, refl)
      planned_so i (changes d) e = served_so i d (served m d.stores) e

      by : (d : Decoded) → is_completed (on_decoded d m s).answer ≡ false
          → ((on_decoded d m s).state ≡ s) × ((on_decoded d m s).ram ≡ m.ram)
      by (Err Undecoded.CutOff) e = (refl, refl)
      by (Err Undecoded.NotCarried) e = (refl, refl)
      by (Ok i) e = planned_so i (plan m s i) e
