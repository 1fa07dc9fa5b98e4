-- What calls and returns leave makes the definition's step, exit by exit.
-- Assumes nothing.
use Rattle.types.specs.declared.machine.Completion.{Completion}
use Rattle.std.specs.Prelude.{Ok, Err, Some, None, Option}
use mathlib.Core.Path.{◌≡◌, refl, sym, ap, ap₂, ◌∙◌}
use mathlib.Core.Bool.{Bool, true, false, ◌&&◌}
use mathlib.Core.List.{List, []}
use Prim.Native.Nat.{ℕ, ◌+◌, ◌-◌, ◌%◌, ◌≤◌, ◌<◌}
use native.Mathlib.Omega.{arith}
use lib.Dec.{eqb, ltb}
use lib.ListN.{get_or, set}
use borrow.Author.Tests.{lt-ltb, le-ltb, eq-eqb, ne_eqb}
use Rattle.cpu.specs.declared.effects.Effect.{Effect}
use Rattle.cpu.specs.File.{registers_of}
use Rattle.cpu.specs.CodeEffects.{code_effect, as_effect, InFile}
use Rattle.memory.specs.declared.stores.Stores.{Stores}
use Rattle.memory.specs.Listed.{listed}
use Rattle.memory.specs.Reads.{read_of}
use Rattle.memory.proofs.Views.{read_done, read_unmapped, read_on, read_off}
use Rattle.types.specs.declared.code.Flow.{Flow}
use Rattle.types.specs.declared.code.Instruction.{Instruction}
use Rattle.types.specs.declared.code.Kind.{Kind}
use Rattle.types.specs.Answers.{Served}
use Rattle.types.specs.declared.machine.CallChange.{CallChange}
use Rattle.types.specs.declared.machine.Core.{Core}
use Rattle.types.specs.declared.machine.Registers.{Registers}
use Rattle.types.specs.declared.machine.Stop.{Stop}
use Rattle.semantics.specs.Addressing.{pulled_at}
use Rattle.semantics.specs.Arithmetic.{with_s, with_status}
use Rattle.semantics.specs.Effects.{pushed_at}
use Rattle.types.specs.Addresses.{address_limit, bank_size}
use Rattle.semantics.specs.Memory.{Memory, Act, ret, evaluate, served, stored}
use Rattle.semantics.specs.Memory.{word_from}
use Rattle.semantics.specs.Memory.{long_from}
use Rattle.instructions.specs.Successors.{next_address, in_bank_after, target_address, kind_number}
use Rattle.types.specs.Status.{status_of}
use Rattle.semantics.specs.Step as spec
use Rattle.semantics.specs.Step.{Plan, stops, changes, change, call_limit, kind_of, return_of, return_bytes}
use Rattle.semantics.specs.Step.{call_record}
use Rattle.semantics.specs.Step.{Stepped, returns_to, plan_by, widths_after, plan_by_within}
use Rattle.semantics.proofs.Step.{pulls_first}
use Rattle.machine.specs.declared.fetched.Fetched.{Fetched}
use Rattle.machine.specs.Fetches.{instruction}
use Rattle.machine.specs.StepResults.{core_at, left, finished}
use Rattle.machine.proofs.Finishing.{place_kept, stops_so, stops_at_stores, completes}

no_second : (a b : Bool) → b ≡ false → a && b ≡ false
no_second true b h = h
no_second false b h = refl

-- the return address that is pulled, by its kind
module _ (m : Memory) (place depth : ℕ) (file : List ℕ) (i : Fetched) (s first second third : ℕ) (kind : Kind)
    (is-s : s ≡ (registers_of file).s) (is-first : first ≡ (s + 1) % bank_size)
    (is-second : second ≡ (s + 2) % bank_size)
  where
    abbrev word : Act ℕ
    word = word_from (pulled_at (registers_of file) 1) (pulled_at (registers_of file) 2)

    abbrev in_bank : ℕ → Act ℕ
    in_bank a = ret (in_bank_after (spec.place_of (core_at place depth file)) i.length a)

    pub pulls_word : (v r : ℕ) → place < address_limit → kind ≡ Kind.ByRts
        → Some v ≡ read_of (evaluate m (word_from first second)) → r ≡ in_bank_after place i.length v
        → Some r ≡ read_of (evaluate m (spec.pulls_return (core_at place depth file) (instruction i) kind))
    pulls_word v r h is-kind read e =
        rw (e, is-kind)
        (ap (λ p. Some (in_bank_after p i.length v)) (sym (place_kept place depth file h))
        ∙ sym (read_on m word in_bank (Some v) (read ∙ rw (is-first, is-second, is-s) refl) v refl))

    pub pulls_none : kind ≡ Kind.ByRts → None ≡ read_of (evaluate m (word_from first second))
        → None ≡ read_of (evaluate m (spec.pulls_return (core_at place depth file) (instruction i) kind))
    pulls_none is-kind read =
        rw is-kind (sym (read_off m word in_bank None (read ∙ rw (is-first, is-second, is-s) refl) refl))

    pub pulls_long : (r : Option ℕ) → kind ≡ Kind.ByRtl → third ≡ (s + 3) % bank_size
        → r ≡ read_of (evaluate m (long_from first second third))
        → r ≡ read_of (evaluate m (spec.pulls_return (core_at place depth file) (instruction i) kind))
    pulls_long r is-kind is-third e = rw (e, is-first, is-second, is-third, is-s, is-kind) refl

-- S put into the file, and the status that was there
module _ (e : Effect) (v status : ℕ) (is-effect : e ≡ code_effect 4 v 7 0 status Stores.None false) where
  pub placed : InFile e
  placed = rw is-effect (omega arith, omega arith)

  pub puts_s : (i : Fetched) (file : List ℕ) (v' : ℕ) (after : Registers)
      → after ≡ widths_after (instruction i) (registers_of file) (as_effect e (registers_of file)).registers → v ≡ v'
      → status ≡ get_or file 7 0
      → after ≡ widths_after (instruction i) (registers_of file) (with_s v' (registers_of file))
  puts_s i file v' after h is-v is-status =
      h ∙ ap (λ k. widths_after (instruction i) (registers_of file) (as_effect k (registers_of file)).registers)
      is-effect
      ∙ ap₂
      (λ n p. widths_after (instruction i) (registers_of file)
      (with_status (status_of p) (with_s n (registers_of file))))
      is-v is-status

-- the plans, case by case
module _ (c : Core) (i : Instruction) where
  abbrev r : Registers
  r = c.registers

  deep : (kind : Kind) → call_limit ≤ c.depth → stops Stop.Deep ≡ spec.calls c i kind
  unfolding spec.calls_within
  deep kind h = rw (le-ltb c.depth call_limit h) refl

  called : (kind : Kind) (place address : ℕ) (stores : Stores) → c.depth < call_limit → place ≡ spec.target c i
      → address ≡ spec.next c i → listed stores ≡ spec.pushes_return c i kind
      → changes
      (change (with_s (pushed_at r (return_bytes kind)) r) place (CallChange.Open address kind)
      (listed stores))
      ≡ spec.calls c i kind
  unfolding spec.calls_within
  called kind place address stores h e e' e'' = rw (lt-ltb c.depth call_limit h, e, e', e'') refl

  module _ (opened : ℕ) (kind : Kind) (address : ℕ) where
    none_open : c.depth ≡ 0 → stops Stop.Astray ≡ returns_to c i opened kind address
    unfolding returns_to
    none_open h = rw h refl

    module _ (n : ℕ) (is-kind : n ≡ kind_number kind) where
      other_kind : (kind_of opened ≡ n → ⊥) → stops Stop.Astray ≡ returns_to c i opened kind address
      unfolding returns_to
      other_kind h =
          rw (← is-kind, no_second (ltb 0 c.depth) (eqb (kind_of opened) n) (ne_eqb (kind_of opened) n h)) refl

      returned : 0 < c.depth → kind_of opened ≡ n → return_of opened ≡ address
          → changes (change (with_s (pulled_at r (return_bytes kind)) r) address CallChange.Close [])
          ≡ returns_to c i opened kind address
      unfolding returns_to
      returned deep same there =
          rw (
            lt-ltb 0 c.depth deep,
            eq-eqb (kind_of opened) (kind_number kind) (same ∙ is-kind),
            eq-eqb (return_of opened) address there,
          ) refl

    other_address : (return_of opened ≡ address → ⊥) → stops Stop.Astray ≡ returns_to c i opened kind address
    unfolding returns_to
    other_address h =
        rw (no_second (ltb 0 c.depth && eqb (kind_of opened) (kind_number kind)) (eqb (return_of opened) address)
        (ne_eqb (return_of opened) address h)) refl

  module _ (m : Memory) (opened : ℕ) (kind : Kind) (w : Option ℕ)
      (read : w ≡ read_of (evaluate m (spec.pulls_return c i kind))) where
    return_unmapped : w ≡ None → stops Stop.Unmapped ≡ plan_by c i m opened (Flow.Return kind)
    return_unmapped e =
        sym (pulls_first m c i opened kind (read_unmapped (evaluate m (spec.pulls_return c i kind)) w read e))

    return_to : (address : ℕ) → w ≡ Some address
        → returns_to c i opened kind address ≡ plan_by c i m opened (Flow.Return kind)
    unfolding plan_by_within
    return_to address e = rw (read_done (evaluate m (spec.pulls_return c i kind)) w address read e) refl

-- the steps, exit by exit
module _ (i : Fetched) (m : Memory) (place depth : ℕ) (file calls : List ℕ) where
  abbrev core : Core
  core = core_at place depth file

  abbrev here : Registers
  here = registers_of file

  -- a call
  module _ (kind : Kind) where
    pub stops_deep : call_limit ≤ depth
        → left place depth (Err Stop.Deep) file calls m.ram
        ≡ finished (spec.calls core (instruction i) kind) i m place depth file calls
    stops_deep h =
        stops_so i m place depth file calls Stop.Deep (spec.calls core (instruction i) kind)
        (deep core (instruction i) kind h)

    module _ (next s : ℕ) (stores : Stores) (w : Served) (h : place < address_limit) (below : depth < call_limit)
        (is-next : next ≡ next_address place i.length) (is-s : s ≡ here.s)
        (pushed : (place depth : ℕ) (file : List ℕ) (i : Fetched) → s ≡ (registers_of file).s
        → next ≡ spec.next (core_at place depth file) (instruction i)
        → listed stores ≡ spec.pushes_return (core_at place depth file) (instruction i) kind)
        (tested : w ≡ served m (listed stores))
      where
        next_kept : next ≡ spec.next core (instruction i)
        next_kept = is-next ∙ ap (λ p. next_address p i.length) (sym (place_kept place depth file h))

        abbrev after : Registers
        after = with_s (pushed_at here (return_bytes kind)) here

        abbrev to : ℕ
        to = target_address (instruction i) place

        opened_so : finished (changes (change after to (CallChange.Open next kind) (listed stores))) i m place
            depth file calls
            ≡ finished (spec.calls core (instruction i) kind) i m place depth file calls
        opened_so =
            ap (λ p. finished p i m place depth file calls)
            (called core (instruction i) kind to next stores below
            (ap (target_address (instruction i)) (sym (place_kept place depth file h))) next_kept
            (pushed place depth file i is-s next_kept))

        pub stops_pushing : (stop : Stop) → w ≡ Err stop
            → left place depth (Err stop) file calls m.ram
            ≡ finished (spec.calls core (instruction i) kind) i m place depth file calls
        stops_pushing stop e =
            stops_at_stores i m place depth file calls after to (CallChange.Open next kind) (listed stores) stop
            (sym tested ∙ e)
            ∙ opened_so

        pub calls_so : (to' entry : ℕ) (file' ram' : List ℕ) → to' ≡ to → w ≡ Ok tt
            → entry ≡ call_record next (kind_number kind) → registers_of file' ≡ widths_after (instruction i) here after
            → ram' ≡ stored (listed stores) m.ram
            → left place depth (Ok (record { completion = Completion.Call; place = to'; depth = depth + 1 })) file'
            (set calls depth entry) ram'
            ≡ finished (spec.calls core (instruction i) kind) i m place depth file calls
        calls_so to' entry file' ram' is-to all is-entry same is-ram =
            completes i m place depth file calls after to (CallChange.Open next kind) (listed stores)
            Completion.Call file'
            (set calls depth entry) ram' to' is-to refl (sym tested ∙ all) same (ap (set calls depth) is-entry) is-ram
            ∙ opened_so

  -- a return
  module _ (opened : ℕ) (kind : Kind) (address : ℕ) where
    abbrev plan : Plan
    plan = returns_to core (instruction i) opened kind address

    pub stops_none_open : depth ≡ 0
        → left place depth (Err Stop.Astray) file calls m.ram ≡ finished plan i m place depth file calls
    stops_none_open h =
        stops_so i m place depth file calls Stop.Astray plan (none_open core (instruction i) opened kind address h)

    pub stops_other_kind : (n : ℕ) → n ≡ kind_number kind → (kind_of opened ≡ n → ⊥)
        → left place depth (Err Stop.Astray) file calls m.ram ≡ finished plan i m place depth file calls
    stops_other_kind n is-kind h =
        stops_so i m place depth file calls Stop.Astray plan
        (other_kind core (instruction i) opened kind address n is-kind h)

    pub stops_other_address : (return_of opened ≡ address → ⊥)
        → left place depth (Err Stop.Astray) file calls m.ram ≡ finished plan i m place depth file calls
    stops_other_address h =
        stops_so i m place depth file calls Stop.Astray plan
        (other_address core (instruction i) opened kind address h)

    pub returns_so : (n to : ℕ) (file' : List ℕ) → to ≡ address → n ≡ kind_number kind → 0 < depth → kind_of opened ≡ n
        → return_of opened ≡ address
        → registers_of file' ≡ widths_after (instruction i) here (with_s (pulled_at here (return_bytes kind)) here)
        → left place depth (Ok (record { completion = Completion.Ordinary; place = to; depth = depth - 1 })) file'
        calls m.ram
        ≡ finished plan i m place depth file calls
    returns_so n to file' is-to is-kind below same there e =
        completes i m place depth file calls (with_s (pulled_at here (return_bytes kind)) here) address
        CallChange.Close [] Completion.Ordinary file' calls m.ram to is-to refl refl e refl refl
        ∙ ap (λ p. finished p i m place depth file calls)
        (returned core (instruction i) opened kind address n is-kind below same there)

  module _ (opened : ℕ) (kind : Kind) (w : Option ℕ)
      (read : w ≡ read_of (evaluate m (spec.pulls_return core (instruction i) kind))) where
    pub stops_pulling : w ≡ None
        → left place depth (Err Stop.Unmapped) file calls m.ram
        ≡ finished (plan_by core (instruction i) m opened (Flow.Return kind)) i m place depth file calls
    stops_pulling e =
        stops_so i m place depth file calls Stop.Unmapped (plan_by core (instruction i) m opened (Flow.Return kind))
        (return_unmapped core (instruction i) m opened kind w read e)

    pub pulls_so : (address : ℕ) (after : Stepped) → w ≡ Some address
        → after ≡ finished (returns_to core (instruction i) opened kind address) i m place depth file calls
        → after ≡ finished (plan_by core (instruction i) m opened (Flow.Return kind)) i m place depth file calls
    pulls_so address so e is-after =
        is-after
        ∙ ap (λ p. finished p i m place depth file calls)
        (return_to core (instruction i) m opened kind w read address e)
