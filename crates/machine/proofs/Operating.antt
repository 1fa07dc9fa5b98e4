-- Operations and jumps: what the functions give makes the definition's plan, and the plan its step.
-- Assumes nothing.
use Rattle.types.specs.declared.machine.Completion.{Completion}
use Rattle.std.specs.Prelude.{Ok, Err, Some, None, Option}
use mathlib.Core.Path.{◌≡◌, refl, sym, ap, ◌∙◌}
use mathlib.Core.Bool.{Bool, true, false}
use mathlib.Core.List.{List, []}
use Prim.Native.Nat.{ℕ, ◌<◌}
use lib.ListN.{get_or}
use Rattle.actions.specs.Tasks.{unpacked_task}
use Rattle.actions.specs.ActionEffects.{effect_by}
use Rattle.codepages.specs.Packing.{unpacked}
use Rattle.cpu.specs.declared.effects.Effect.{Effect as Kept}
use Rattle.cpu.specs.File.{registers_of}
use Rattle.cpu.specs.CodeEffects.{as_effect, code_effect}
use Rattle.memory.specs.declared.stores.Stores.{Stores}
use Rattle.memory.specs.Listed.{listed}
use Rattle.memory.specs.Reads.{read_of}
use Rattle.memory.proofs.Views.{read_done, read_unmapped}
use Rattle.types.specs.declared.code.Accumulator.{Accumulator}
use Rattle.types.specs.declared.code.DataWidth.{DataWidth}
use Rattle.types.specs.declared.code.Entry.{Entry}
use Rattle.types.specs.declared.code.Mode.{Mode}
use Rattle.types.specs.declared.machine.OperandUse.{OperandUse}
use Rattle.types.specs.declared.machine.Core.{Core}
use Rattle.types.specs.declared.machine.Data.{Data}
use Rattle.types.specs.declared.machine.Registers.{Registers}
use Rattle.types.specs.declared.machine.CallChange.{CallChange}
use Rattle.types.specs.declared.machine.Stop.{Stop}
use Rattle.semantics.specs.Addressing.{operand_use_of, is_short, data_of}
use Rattle.prelude.specs.Choice.{pick}
use Rattle.semantics.specs.Effects.{Effect, effect_of}
use Rattle.types.specs.Addresses.{address_limit}
use Rattle.semantics.specs.Memory.{Memory, Outcome, evaluate}
use Rattle.instructions.specs.Successors.{next_address}
use Rattle.types.specs.Status.{mask_m, mask_x, is_set}
use Rattle.semantics.specs.Step as spec
use Rattle.semantics.specs.Step.{Plan, stops, changes, change, is_decimal, widths_after, operates}
use Rattle.semantics.proofs.Step.{decimal_first}
use Rattle.operations.specs.Table.{Does}
use Rattle.machine.specs.declared.fetched.Fetched.{Fetched}
use Rattle.machine.specs.Fetches.{instruction}
use Rattle.machine.specs.StepResults.{StepResult, core_at, left, finished}
use Rattle.machine.proofs.Finishing.{place_kept, stops_so, completes}

-- a branch that is not taken goes on at the next instruction, and so does what does not branch
pub not_taken : (branches taken : Bool) (target next to : ℕ) → taken ≡ false → to ≡ next
    → to ≡ pick branches (pick taken target next) next
not_taken true taken target next to h e = rw h e
not_taken false taken target next to h e = e

-- what an operation's effect comes to, with where it goes on
abbrev planned_by : (Bool → ℕ) → Effect → Plan
planned_by goes e = changes (change e.registers (goes e.taken) CallChange.Keep e.stores)

module _ (i : Fetched) (m : Memory) (place depth : ℕ) (file : List ℕ) where
  abbrev c : Core
  c = core_at place depth file

  abbrev r : Registers
  r = registers_of file

  abbrev entry : Entry
  entry = unpacked i.number

  module _ (goes : Bool → ℕ) (task : ℕ) (access : OperandUse)
      (is-task : Does entry.accumulator entry.operation task)
      (is-access : access ≡ (unpacked_task task).access) (decimal : Bool) (tested : decimal ≡ is_decimal access r) where
    asked_so : access ≡ operand_use_of entry.operation
    asked_so = is-access ∙ is-task.0

    is_tested : is_decimal (operand_use_of entry.operation) r ≡ decimal
    is_tested = ap (λ a. is_decimal a r) (sym asked_so) ∙ sym tested

    pub stops_decimal : decimal ≡ true → (calls : List ℕ)
        → left place depth (Err Stop.Decimal) file calls m.ram
        ≡ finished (operates c (instruction i) m goes) i m place depth file calls
    stops_decimal h calls =
        stops_so i m place depth file calls Stop.Decimal (operates c (instruction i) m goes)
        (sym (decimal_first m c (instruction i) goes (is_tested ∙ h)))

    module _ (h : decimal ≡ false) (width : DataWidth) (is-width : width ≡ entry.width)
        (status : ℕ) (is-status : status ≡ get_or file 7 0) (by-m : Bool) (is_m : by-m ≡ is_set mask_m status)
        (by-x : Bool) (is_x : by-x ≡ is_set mask_x status) (short : Bool) (is-short : short ≡ is_short width by-m by-x)
        (mode : Mode) (is-mode : mode ≡ entry.mode) (named : Accumulator) (is-named : named ≡ entry.accumulator)
        (w : Option Data) (read : w ≡ read_of (evaluate m (data_of access mode named r short i.operand))) where
      short_so : short ≡ spec.short c (instruction i)
      short_so = rw (is-short, is-width, is_m, is_x, is-status) refl

      abbrev asked : Outcome Data
      asked =
          evaluate m
          (data_of (operand_use_of entry.operation) entry.mode entry.accumulator r (spec.short c (instruction i))
          i.operand)

      again : w ≡ read_of asked
      again = read ∙ rw (asked_so, is-mode, is-named, short_so) refl

      unmapped_plan : w ≡ None → stops Stop.Unmapped ≡ operates c (instruction i) m goes
      unfolding operates
      unmapped_plan e = rw (is_tested, h, read_unmapped asked w again e) refl

      pub stops_unmapped : w ≡ None → (calls : List ℕ)
          → left place depth (Err Stop.Unmapped) file calls m.ram
          ≡ finished (operates c (instruction i) m goes) i m place depth file calls
      stops_unmapped e calls =
          stops_so i m place depth file calls Stop.Unmapped (operates c (instruction i) m goes)
          (unmapped_plan e)

      module _ (given : Data) (found : w ≡ Some given) (inside : place < address_limit)
          (next : ℕ) (is-next : next ≡ next_address place i.length) (e : Kept)
          (is-effect : as_effect e r ≡ effect_by mode short i.operand next given file (unpacked_task task))
          (to : ℕ) (is-to : to ≡ goes e.taken) where
        next_so : next ≡ spec.next c (instruction i)
        next_so = is-next ∙ ap (λ n. next_address n i.length) (sym (place_kept place depth file inside))

        effect_so : as_effect e r
            ≡ effect_of entry.mode entry.accumulator (spec.short c (instruction i)) i.operand
            (spec.next c (instruction i)) given r entry.operation
        effect_so =
            is-effect
            ∙ is-task.1 mode short i.operand next given file
            ∙ rw (is-mode, short_so, next_so) refl

        works_so : changes (change (as_effect e r).registers to CallChange.Keep (listed e.stores))
            ≡ spec.works c (instruction i) goes given
        works_so =
            ap (λ n. changes (change (as_effect e r).registers n CallChange.Keep (listed e.stores))) is-to
            ∙ ap (planned_by goes) effect_so

        worked_plan : changes (change (as_effect e r).registers to CallChange.Keep (listed e.stores))
            ≡ operates c (instruction i) m goes
        unfolding operates
        worked_plan = rw (is_tested, h, read_done asked w given again found) works_so

        pub works_on : (t : StepResult) (file' ram' : List ℕ)
            → ((calls : List ℕ) → left place depth t file' calls ram'
            ≡ finished (changes (change (as_effect e r).registers to CallChange.Keep (listed e.stores))) i m place
            depth file calls)
            → (calls : List ℕ)
            → left place depth t file' calls ram'
            ≡ finished (operates c (instruction i) m goes) i m place depth file calls
        works_on t file' ram' finishes calls =
            finishes calls ∙ ap (λ p. finished p i m place depth file calls) worked_plan

  -- a jump leaves the registers but for the widths
  pub jumped : (e : Kept) → e ≡ code_effect 7 0 7 0 (get_or file 7 0) Stores.None false
      → (file' : List ℕ) → registers_of file' ≡ widths_after (instruction i) r (as_effect e r).registers
      → (to target : ℕ) → to ≡ target → (calls : List ℕ)
      → left place depth (Ok (record { completion = Completion.Ordinary; place = to; depth = depth })) file' calls m.ram
      ≡ finished (changes (change r target CallChange.Keep [])) i m place depth file calls
  jumped e is-effect file' same to target is-to calls =
      completes i m place depth file calls r target CallChange.Keep [] Completion.Ordinary file' calls m.ram to is-to
      refl refl
      (same ∙ ap (λ k. widths_after (instruction i) r (as_effect k r).registers) is-effect) refl refl
