-- What is fetched decides the step, and its flow the plan.
-- Assumes nothing.
use Rattle.types.specs.declared.code.Undecoded.{Undecoded}
use Rattle.std.specs.Prelude.{Ok, Err}
use mathlib.Core.Path.{◌≡◌, refl, sym, ap, ◌∙◌}
use mathlib.Core.Logic.{◌⊎◌, ⊎_elim}
use mathlib.Core.Bool.{Bool}
use mathlib.Core.List.{List, []}
use Prim.Native.Nat.{ℕ, ◌-◌, ◌%◌, ◌<◌}
use native.Mathlib.Omega.{arith}
use lib.ListN.{get_or}
use Rattle.cpu.specs.File.{registers_of}
use Rattle.types.specs.declared.code.Kind.{Kind}
use Rattle.types.specs.declared.code.Flow.{Flow}
use Rattle.types.specs.declared.code.Instruction.{Instruction}
use Rattle.types.specs.declared.machine.CallChange.{CallChange}
use Rattle.types.specs.declared.machine.Core.{Core}
use Rattle.types.specs.declared.machine.Stop.{Stop}
use Rattle.prelude.specs.Choice.{pick}
use Rattle.types.specs.Addresses.{address_limit}
use Rattle.semantics.specs.Memory.{Memory}
use Rattle.instructions.specs.Successors.{next_address, target_address}
use Rattle.semantics.specs.Step.{Plan, Stepped, stops, changes, change, operates, calls, plan_by, fetched, on_decoded}
use Rattle.semantics.specs.Step.{place_of, step, plan_by_within, step_within}
use Rattle.machine.specs.declared.fetched.Fetched.{Fetched}
use Rattle.machine.specs.Fetches.{Fetch, instruction, decoded_as, is_branch}
use Rattle.machine.specs.StepResults.{state, core_at, left, finished, goes_on_by}
use Rattle.machine.proofs.Finishing.{place_kept, core_kept}

module _ (i : Fetched) (m : Memory) (place depth : ℕ) (file opens : List ℕ) (inside : place < address_limit) where
  abbrev c : Core
  c = core_at place depth file

  abbrev there : Instruction
  there = instruction i

  abbrev opened : ℕ
  opened = get_or opens (depth - 1) 0

  module _ (flow : Flow) (is-flow : flow ≡ there.entry.flow) (after : Stepped) where
    by_plan : (p : Plan) → after ≡ finished p i m place depth file opens → p ≡ plan_by c there m opened flow
        → after ≡ on_decoded (Ok there) m (state c opens)
    by_plan p e e' = rw (e, e', is-flow) refl

    -- an operation goes on at the next address, or by its target where it branches
    pub by_operation : flow ≡ Flow.Next ⊎ flow ≡ Flow.Branch → (branches : Bool) → branches ≡ is_branch flow
        → after ≡ finished (operates c there m (goes_on_by branches i place)) i m place depth file opens
        → after ≡ on_decoded (Ok there) m (state c opens)
    unfolding plan_by_within
    by_operation h branches e e' =
        by_plan (operates c there m (goes_on_by branches i place)) e' (by flow h branches e)
      where
        by : (f : Flow) → f ≡ Flow.Next ⊎ f ≡ Flow.Branch → (b : Bool) → b ≡ is_branch f
            → operates c there m (goes_on_by b i place) ≡ plan_by c there m opened f
        by Flow.Next h b e =
            rw e
            (ap (λ p. operates c there m (λ taken. next_address p i.length))
            (sym (place_kept place depth file inside)))
        by Flow.Branch h b e =
            rw e
            (ap (λ p. operates c there m (λ taken. pick taken (target_address there p) (next_address p i.length)))
            (sym (place_kept place depth file inside)))
        by Flow.Jump h b e = ⊎_elim (λ e. cc) (λ e. cc) h
        by (Flow.Call kind) h b e = ⊎_elim (λ e. cc) (λ e. cc) h
        by (Flow.Return kind) h b e = ⊎_elim (λ e. cc) (λ e. cc) h
        by Flow.Halt h b e = ⊎_elim (λ e. cc) (λ e. cc) h

    pub by_jump : flow ≡ Flow.Jump
        → after
        ≡ finished (changes (change (registers_of file) (target_address there place) CallChange.Keep [])) i m place
        depth
        file opens
        → after ≡ on_decoded (Ok there) m (state c opens)
    unfolding plan_by_within
    by_jump e e' =
        by_plan (changes (change (registers_of file) (target_address there place) CallChange.Keep [])) e' (rw e jumped)
      where
        jumped : changes (change (registers_of file) (target_address there place) CallChange.Keep [])
            ≡ plan_by c there m opened Flow.Jump
        jumped =
            ap (λ p. changes (change (registers_of file) (target_address there p) CallChange.Keep []))
            (sym (place_kept place depth file inside))

    pub by_call : (kind : Kind) → flow ≡ Flow.Call kind
        → after ≡ finished (calls c there kind) i m place depth file opens
        → after ≡ on_decoded (Ok there) m (state c opens)
    unfolding plan_by_within
    by_call kind e e' = by_plan (calls c there kind) e' (rw e called)
      where
        called : calls c there kind ≡ plan_by c there m opened (Flow.Call kind)
        called = refl

    pub by_return : (kind : Kind) (last : ℕ) → flow ≡ Flow.Return kind → last ≡ opened
        → after ≡ finished (plan_by c there m last (Flow.Return kind)) i m place depth file opens
        → after ≡ on_decoded (Ok there) m (state c opens)
    by_return kind last e e' e'' = by_plan (plan_by c there m last (Flow.Return kind)) e'' (rw (e, e') refl)

    pub by_halt : flow ≡ Flow.Halt → after ≡ left place depth (Err Stop.Halt) file opens m.ram
        → after ≡ on_decoded (Ok there) m (state c opens)
    unfolding plan_by_within
    by_halt e e' = by_plan (stops Stop.Halt) e' (rw e halted)
      where
        halted : stops Stop.Halt ≡ plan_by c there m opened Flow.Halt
        halted = refl

-- what is fetched at the place of execution decides the step
module _ (m : Memory) (place depth : ℕ) (file opens : List ℕ) (found : Fetch) (at : ℕ)
    (is-at : at ≡ place % address_limit)
  where
    abbrev here : Core
    here = core_at (place % address_limit) depth file

    at_place : at ≡ place_of here
    at_place = is-at ∙ sym (place_kept (place % address_limit) depth file (omega arith))

    module _ (fetches : (c : Core) → at ≡ place_of c → c.registers.status ≡ here.registers.status
        → decoded_as found ≡ fetched m c) (after : Stepped) where
      by_fetch : after ≡ on_decoded (decoded_as found) m (state here opens)
          → after ≡ step m (state (core_at place depth file) opens)
      unfolding step_within
      by_fetch e =
          e ∙ ap (λ d. on_decoded d m (state here opens)) (fetches here at_place refl)
          ∙ ap (λ c. on_decoded (fetched m c) m (state c opens)) (core_kept place depth file)

      pub step_whole : (i : Fetched) → found ≡ Ok i
          → after ≡ on_decoded (Ok (instruction i)) m (state here opens)
          → after ≡ step m (state (core_at place depth file) opens)
      step_whole i e e' = by_fetch (rw e e')

      pub step_uncarried : found ≡ Err Undecoded.NotCarried
          → after ≡ left place depth (Err Stop.Uncarried) file opens m.ram
          → after ≡ step m (state (core_at place depth file) opens)
      step_uncarried e e' = by_fetch (rw (e, e', core_kept place depth file) refl)

      pub step_outside : found ≡ Err Undecoded.CutOff
          → after ≡ left place depth (Err Stop.Outside) file opens m.ram
          → after ≡ step m (state (core_at place depth file) opens)
      step_outside e e' = by_fetch (rw (e, e', core_kept place depth file) refl)
