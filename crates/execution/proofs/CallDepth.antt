-- A step asks for the limit only where it is a call, and a call with fewer open than the smaller limit is within both.
-- It looks at no record but that of the call opened last, and changes none but the next: both stand before the further
-- records. So the two steps come to the same, and leave no more open calls than the smaller limit; by induction so do
-- the histories, and with them all that is made of a history. The test of the state looks at the open calls alone.
-- Assumes nothing.
use Rattle.types.specs.declared.code.Undecoded.{Undecoded}
use Rattle.std.specs.Prelude.{Ok, Err}
use mathlib.Core.Path.{◌≡◌, refl, sym, subst, ap, ap₂, ◌∙◌}
use mathlib.Core.Bool.{Bool, true, false, not, ◌&&◌}
use mathlib.Core.List.{List, [], ◌∷◌, ◌++◌, map, map-append}
use Prim.Native.Nat.{ℕ, zero, suc, ◌+◌, ◌-◌, ◌≤◌, ◌<◌}
use native.Mathlib.Nat.{eq-or-lt_of_le}
use native.Mathlib.Omega.{arith}
use mathlib.Core.Logic.{◌⊎◌, inl, inr}
use lib.Dec.{eqb, ltb, leb}
use lib.ListN.{length, length-set, get_or-append}
use lib.Seq.{set-append_left}
use borrow.Author.Tests.{lt-ltb, le-leb, ltb-true}
use Rattle.types.specs.declared.code.Kind.{Kind}
use Rattle.types.specs.declared.code.Flow.{Flow}
use Rattle.types.specs.declared.code.Instruction.{Instruction}
use Rattle.types.specs.Answers.{Decoded, Served, StepAnswer, TestResult}
use Rattle.types.specs.declared.machine.Core.{Core}
use Rattle.types.specs.declared.machine.State.{State}
use Rattle.types.specs.declared.machine.CallChange.{CallChange}
use Rattle.types.specs.Refusals.{first_refusal}
use Rattle.prelude.specs.Choice.{pick, bit}
use Rattle.prelude.proofs.First.{first_same}
use Rattle.semantics.specs.Memory.{Memory, Outcome, done, unmapped, evaluate, served, stored}
use Rattle.semantics.specs.Step.{call_limit, call_record, fetched, Change, Plan, stops, changes, on_read, calls_within}
use Rattle.semantics.specs.Step.{pulls_return, returns_to, plan_by_within, last_opened, plan_within, Stepped, stepped}
use Rattle.semantics.specs.Step.{calls_after, answer_of, core_after, on_served, finish, on_decoded_within, step_within}
use Rattle.semantics.specs.Step.{is_completed, is_call}
use Rattle.execution.specs.Run.{Event, event_within, with_ram, history_within, count, end_after, end_of, state_left}
use Rattle.execution.specs.Run.{ram_left, level_limit, call_fits, call_broken, calls_fit, state_fits_within, run_tests}
use Rattle.execution.specs.Run.{admission_within, admitted_history_within, run_history_within, answer_by, ran_by}
use Rattle.execution.specs.Run.{ran_within, runs_from_within, joined_history_within}
use Rattle.prelude.specs.Lists.{Every}
use Rattle.execution.specs.CallDepth.{extended, extended_stepped, extended_event, extended_ran, Holds, MeetsNoCall}
use Rattle.execution.specs.CallDepth.{SameRun, SameRuns, CallDepth, AsFound}
use Rattle.semantics.proofs.Step.{Opens, PlanOpens, opens_below, depth_kept}
use Rattle.execution.proofs.Guarantee.{every_parts}
use Rattle.types.specs.Kinds.{kind_number}

-- ---- the plan

-- a return goes by the record of the call opened last, where there is one
module _ (c : Core) (i : Instruction) (opened opened' : ℕ) (same : 0 < c.depth → opened' ≡ opened) where
  return_same : (kind : Kind) (address : ℕ)
      → returns_to c i opened' kind address ≡ returns_to c i opened kind address
  unfolding returns_to
  return_same kind address = by (ltb 0 c.depth) refl
    where
      by : (b : Bool) → ltb 0 c.depth ≡ b
          → returns_to c i opened' kind address ≡ returns_to c i opened kind address
      by true e = rw (same (ltb-true 0 c.depth e)) refl
      by false e = rw e refl

  plan_same : (fewer limit : ℕ) → fewer ≤ limit → (m : Memory) (flow : Flow)
      → ((kind : Kind) → flow ≡ Flow.Call kind → c.depth < fewer)
      → plan_by_within c i limit m opened' flow ≡ plan_by_within c i fewer m opened flow
  unfolding plan_by_within calls_within
  plan_same fewer limit most m Flow.Next below = refl
  plan_same fewer limit most m Flow.Branch below = refl
  plan_same fewer limit most m Flow.Jump below = refl
  plan_same fewer limit most m (Flow.Call kind) below =
      let few = below kind refl in
      rw (lt-ltb c.depth limit (omega arith), lt-ltb c.depth fewer few) refl
  plan_same fewer limit most m (Flow.Return kind) below = by (evaluate m (pulls_return c i kind))
    where
      by : (o : Outcome ℕ) → on_read o (returns_to c i opened' kind) ≡ on_read o (returns_to c i opened kind)
      by unmapped = refl
      by (done address) = return_same kind address
  plan_same fewer limit most m Flow.Halt below = refl

-- ---- a step

module _ (fewer limit : ℕ) (most : fewer ≤ limit) (more : List ℕ) where
  records_same : (change : CallChange) (depth : ℕ) (calls : List ℕ) → Opens fewer change depth
      → fewer ≤ length calls → calls_after change depth (calls ++ more) ≡ calls_after change depth calls ++ more
  records_same CallChange.Keep depth calls below room = refl
  records_same (CallChange.Open address kind) depth calls below room =
      set-append_left calls more depth (call_record address (kind_number kind)) (omega arith)
  records_same CallChange.Close depth calls below room = refl

  finish_same : (i : Instruction) (m : Memory) (s : State) (p : Plan) → PlanOpens fewer p s.core.depth
      → fewer ≤ length s.calls → finish p i m (extended more s) ≡ extended_stepped more (finish p i m s)
  finish_same i m s (stops stop) below room = refl
  finish_same i m s (changes d) below room = by (served m d.stores)
    where
      by : (v : Served) → on_served v i d m (extended more s) ≡ extended_stepped more (on_served v i d m s)
      by (Ok _) =
          ap (λ calls. stepped (answer_of d.calls) (record { core = core_after i s.core d; calls = calls })
          (stored d.stores m.ram))
          (records_same d.calls s.core.depth s.calls below room)
      by (Err stop) = refl

  module _ (m : Memory) (s : State) (h : Holds fewer s) where
    last_same : 0 < s.core.depth → last_opened (extended more s) ≡ last_opened s
    last_same some = get_or-append s.calls more 0 (s.core.depth - 1) (omega (arith, h.few, h.room))

    step_same : MeetsNoCall fewer m.image m.base (event_within limit m (extended more s))
        → step_within limit m (extended more s) ≡ extended_stepped more (step_within fewer m s)
    unfolding step_within
    step_same none = by (fetched m s.core) refl
      where
        below : (i : Instruction) → fetched m s.core ≡ Ok i → (kind : Kind)
            → i.entry.flow ≡ Flow.Call kind → s.core.depth < fewer
        below i e kind call = side (eq-or-lt_of_le h.few)
          where
            side : (s.core.depth ≡ fewer) ⊎ (s.core.depth < fewer) → s.core.depth < fewer
            side (inl all) = absurd (none i kind e call all)
            side (inr less) = less

        by : (d : Decoded) → fetched m s.core ≡ d
            → on_decoded_within limit d m (extended more s) ≡ extended_stepped more (on_decoded_within fewer d m s)
        by (Err Undecoded.CutOff) e = refl
        by (Err Undecoded.NotCarried) e = refl
        by (Ok i) e =
            ap (λ p. finish p i m (extended more s))
            (plan_same s.core i (last_opened s) (last_opened (extended more s)) last_same fewer limit most m
            i.entry.flow (below i e))
            ∙ finish_same i m s (plan_within fewer m s i)
            (opens_below fewer s.core i m (last_opened s) i.entry.flow) h.room

    -- a step keeps the number of records
    records_kept : length (step_within fewer m s).state.calls ≡ length s.calls
    unfolding step_within
    records_kept = by (fetched m s.core)
      where
        changed : (change : CallChange) → length (calls_after change s.core.depth s.calls) ≡ length s.calls
        changed CallChange.Keep = refl
        changed (CallChange.Open address kind) = length-set s.calls s.core.depth (call_record address (kind_number
            kind))
        changed CallChange.Close = refl

        serves_so : (i : Instruction) (d : Change) (v : Served)
            → length (on_served v i d m s).state.calls ≡ length s.calls
        serves_so i d (Ok _) = changed d.calls
        serves_so i d (Err stop) = refl

        plans_so : (i : Instruction) (p : Plan) → length (finish p i m s).state.calls ≡ length s.calls
        plans_so i (stops stop) = refl
        plans_so i (changes d) = serves_so i d (served m d.stores)

        by : (d : Decoded) → length (on_decoded_within fewer d m s).state.calls ≡ length s.calls
        by (Err Undecoded.CutOff) = refl
        by (Err Undecoded.NotCarried) = refl
        by (Ok i) = plans_so i (plan_within fewer m s i)

    holds_kept : Holds fewer (step_within fewer m s).state
    holds_kept = record { few = depth_kept m s h.few; room = rw records_kept h.room }

  -- ---- a history

  abbrev Shallow : Memory → List Event → Type 0
  Shallow m h = Every (MeetsNoCall fewer m.image m.base) h

  -- what a history goes on with after a step, completed or not
  abbrev rest : ℕ → Memory → ℕ → Stepped → Bool → List Event
  rest l m n t completed =
      elim completed [ true ↦ history_within l (with_ram t.ram m) t.state n | false ↦ [] ]

  abbrev SameEvents : State → List Event → List Event → Type 0
  SameEvents s large small = (large ≡ map (extended_event more) small) × Holds fewer (state_left s small)

  rest_same : (n : ℕ) (m : Memory) (s : State) (t : Stepped) → Holds fewer s
      → (Shallow m (history_within limit (with_ram t.ram m) (extended more t.state) n)
      → SameEvents t.state (history_within limit (with_ram t.ram m) (extended more t.state) n)
      (history_within fewer (with_ram t.ram m) t.state n))
      → (b : Bool) → Shallow m (rest limit m n (extended_stepped more t) b)
      → SameEvents (pick b t.state s) (rest limit m n (extended_stepped more t) b) (rest fewer m n t b)
  rest_same n m s t h onward true none = onward none
  rest_same n m s t h onward false none = (refl, h)

  history_same : (n : ℕ) (m : Memory) (s : State) → Holds fewer s
      → Shallow m (history_within limit m (extended more s) n)
      → SameEvents s (history_within limit m (extended more s) n) (history_within fewer m s n)
  unfolding history_within
  history_same zero m s h none = (refl, h)
  history_same (suc n) m s h none =
      let t = step_within fewer m s in
      let same = step_same m s h none.0 in
      let later = rest_same n m s t h (history_same n (with_ram t.ram m) t.state (holds_kept m s h))
      (is_completed t.answer)
      (subst (λ (u : Stepped). Shallow m (rest limit m n u (is_completed u.answer))) same none.1) in (
        ap (λ (u : Stepped). record { ram = m.ram; state = extended more s; result = u }
            ∷ rest limit m n u (is_completed u.answer)) same
            ∙ ap (λ events. extended_event more (event_within fewer m s) ∷ events) later.0,
        later.1,
      )

  -- ---- what is made of a history

  state_same : (h : List Event) (s : State)
      → state_left (extended more s) (map (extended_event more) h) ≡ extended more (state_left s h)
  state_same [] s = refl
  state_same (e ∷ h) s = by (is_completed e.result.answer) (state_same h)
    where
      by : (b : Bool)
          → ((t : State) → state_left (extended more t) (map (extended_event more) h) ≡ extended more (state_left t h))
          → state_left (pick b (extended more e.result.state) (extended more s)) (map (extended_event more) h)
          ≡ extended more (state_left (pick b e.result.state s) h)
      by true same = same e.result.state
      by false same = same s

  ram_same : (h : List Event) (ram : List ℕ) → ram_left ram (map (extended_event more) h) ≡ ram_left ram h
  ram_same [] ram = refl
  ram_same (e ∷ h) ram = ram_same h (pick (is_completed e.result.answer) e.result.ram ram)

  count_same : (test : StepAnswer → Bool) (h : List Event) → count test (map (extended_event more) h) ≡ count test h
  count_same test [] = refl
  count_same test (e ∷ h) = ap (λ k. bit (test e.result.answer) + k) (count_same test h)

  end_same : (h : List Event) → end_of (map (extended_event more) h) ≡ end_of h
  end_same [] = refl
  end_same (e ∷ h) = ap (λ end. end_after e.result.answer end) (end_same h)

  answer_same : (a : TestResult) (h : List Event) → answer_by a (map (extended_event more) h) ≡ answer_by a h
  answer_same (Ok _) h = rw (end_same h, count_same is_completed h, count_same is_call h) refl
  answer_same (Err why) h = refl

  come_same : (a : TestResult) (m : Memory) (s : State) (h : List Event)
      → ran_by a m (extended more s) (map (extended_event more) h) ≡ extended_ran more (ran_by a m s h)
  come_same a m s h j =
      record { answer = answer_same a h j; state = state_same h s j; ram = ram_same h m.ram j }

  -- ---- a run

  module _ (m : Memory) (s : State) (asked : ℕ) (h : Holds fewer s) where
    -- the test of the records looks at the open calls alone
    calls_same : calls_fit (s.calls ++ more) s.core.depth ≡ calls_fit s.calls s.core.depth
    unfolding calls_fit
    calls_same =
        ap (λ k. eqb k s.core.depth)
        (first_same (call_broken (s.calls ++ more)) (call_broken s.calls) 0 s.core.depth
        (λ k low high. ap (λ entry. not (call_fits entry))
        (get_or-append s.calls more 0 k (omega (arith, h.few, h.room)))))

    few_same : leb s.core.depth limit ≡ leb s.core.depth fewer
    few_same =
        le-leb s.core.depth limit (omega (arith, h.few)) ∙ sym (le-leb s.core.depth fewer h.few)

    fits_same : state_fits_within limit (extended more s) ≡ state_fits_within fewer s
    unfolding state_fits_within
    fits_same =
        ap₂ (λ few calls. ltb s.core.registers.status.level level_limit && few && calls) few_same calls_same

    admission_same : admission_within limit m (extended more s) asked ≡ admission_within fewer m s asked
    admission_same = ap (λ fits. first_refusal (run_tests m fits asked)) fits_same

    -- with the same admission
    admitted_same : (a : TestResult) → Shallow m (admitted_history_within limit a m (extended more s) asked)
        → SameEvents s (admitted_history_within limit a m (extended more s) asked)
        (admitted_history_within fewer a m s asked)
    unfolding admitted_history_within
    admitted_same (Ok _) none = history_same asked m s h none
    admitted_same (Err why) none = (refl, h)

    module _ (none : Shallow m (run_history_within limit m (extended more s) asked)) where
      events_same : SameEvents s (run_history_within limit m (extended more s) asked)
          (run_history_within fewer m s asked)
      events_same =
          rw admission_same (admitted_same (admission_within fewer m s asked) (rw admission_same at none))

      run_same : SameRun fewer limit more m s asked
      unfolding ran_within
      run_same = record {
        history = events_same.0;
        ran = ap₂ (λ a events. ran_by a m (extended more s) events) admission_same events_same.0
            ∙ come_same (admission_within fewer m s asked) m s (run_history_within fewer m s asked);
      }

      run_holds : Holds fewer (ran_within fewer m s asked).state
      unfolding ran_within
      run_holds = events_same.1

  -- ---- a list of runs

  list_same : (asked : List ℕ) (m : Memory) (s : State) → Holds fewer s
      → Shallow m
      (joined_history_within limit m.image m.base (runs_from_within limit m (extended more s) asked))
      → SameRuns fewer limit more m s asked
  unfolding runs_from_within joined_history_within
  list_same [] m s h none = record { given = refl; each = tt; joined = refl }
  list_same (n ∷ asked) m s h none =
      let parts = every_parts (MeetsNoCall fewer m.image m.base) (run_history_within limit m (extended more s) n)
      _ none in
      let first = run_same m s n h parts.0 in
      let left = ran_within fewer m s n in
      let later = list_same asked (with_ram left.ram m) left.state (run_holds m s n h parts.0)
      (rw first.ran at parts).1 in
      record {
        given = rw first.ran
            (ap (λ runs. record { ram = m.ram; state = extended more s; asked = n } ∷ runs) later.given);
        each = (first, later.each);
        joined = rw first.ran
            (ap₂ (λ events others. events ++ others) first.history later.joined
            ∙ sym (map-append (extended_event more) (run_history_within fewer m s n)
            (joined_history_within fewer m.image m.base
            (runs_from_within fewer (with_ram left.ram m) left.state asked))));
      }

-- ---- the claim

pub call_depth : CallDepth
call_depth fewer limit most = record {
  of_a_run = λ m s more asked h none. run_same fewer limit most more m s asked h none;
  of_a_list = λ m s more asked h none. list_same fewer limit most more asked m s h none;
}

pub as_found : AsFound
as_found = call_depth call_limit 64 (omega arith)
