-- What holds of each row of a table of tasks holds of each entry's task: the row is looked up by the operation's place,
-- and which of its two tasks it is goes by the accumulator that the entry names.
-- Assumes nothing.
use mathlib.Core.Path.{◌≡◌, refl, sym, ap, ◌∙◌}
use mathlib.Core.Bool.{Bool}
use mathlib.Core.List.{List, [], ◌∷◌, ◌++◌, map}
use Prim.Native.Nat.{ℕ, zero, suc, ◌/◌, ◌%◌, ◌<◌}
use native.Mathlib.Omega.{arith}
use lib.Dec.{eqb}
use lib.ListN.{get_or, replicate, get_or-map}
use Rattle.types.specs.declared.code.Operation.{Operation}
use Rattle.types.specs.declared.code.Accumulator.{Accumulator}
use Rattle.types.specs.declared.code.Mode.{Mode}
use Rattle.types.specs.declared.machine.Data.{Data}
use Rattle.semantics.specs.Addressing.{operand_use_of}
use Rattle.prelude.specs.Choice.{pick}
use Rattle.semantics.specs.Effects.{Effect, effect_of}
use Rattle.codepages.specs.Packing.{operations, modes, mode_place, accumulators, unpacked}
use Rattle.cpu.specs.File.{registers_of}
use Rattle.actions.specs.Tasks.{unpacked_task}
use Rattle.actions.specs.ActionEffects.{by_action, effect_by}
use Rattle.operations.specs.Table.{part, Does, Tasked}

-- what holds of the list of modes holds of every mode
mode_kept : (mode : Mode) → get_or modes (mode_place mode) Mode.Implied ≡ mode
mode_kept Mode.Implied = refl
mode_kept Mode.Immediate = refl
mode_kept Mode.Accumulator = refl
mode_kept Mode.Direct = refl
mode_kept Mode.DirectBit = refl
mode_kept Mode.DirectIndexedX = refl
mode_kept Mode.DirectIndexedY = refl
mode_kept Mode.DirectIndirect = refl
mode_kept Mode.DirectIndexedXIndirect = refl
mode_kept Mode.DirectIndirectIndexedY = refl
mode_kept Mode.DirectIndirectLong = refl
mode_kept Mode.DirectIndirectLongIndexedY = refl
mode_kept Mode.Absolute = refl
mode_kept Mode.AbsoluteBit = refl
mode_kept Mode.AbsoluteIndexedX = refl
mode_kept Mode.AbsoluteIndexedY = refl
mode_kept Mode.AbsoluteLong = refl
mode_kept Mode.AbsoluteLongIndexedX = refl
mode_kept Mode.AbsoluteIndirect = refl
mode_kept Mode.AbsoluteIndirectLong = refl
mode_kept Mode.AbsoluteIndexedXIndirect = refl
mode_kept Mode.Stack = refl
mode_kept Mode.Relative = refl
mode_kept Mode.DirectBitRelative = refl
mode_kept Mode.AbsoluteBitRelative = refl
mode_kept Mode.StackPointerRelative = refl
mode_kept Mode.StackPointerRelativeIndirectIndexedY = refl
mode_kept Mode.BlockTransfer = refl

pub by_mode : {C : Type 0} (x y : Mode → C) → map x modes ≡ map y modes → x Mode.Implied ≡ y Mode.Implied
    → (mode : Mode) → x mode ≡ y mode
by_mode x y same first mode =
    ap x (sym (mode_kept mode))
    ∙ sym (get_or-map x modes (mode_place mode) Mode.Implied)
    ∙ ap (λ l. get_or l (mode_place mode) (x Mode.Implied)) same
    ∙ ap (λ d. get_or (map y modes) (mode_place mode) d) first
    ∙ get_or-map y modes (mode_place mode) Mode.Implied
    ∙ ap y (mode_kept mode)

-- the operations of the rows: every number that an entry's field can be has its row
abbrev pub rows : List Operation
rows = operations ++ replicate 24 Operation.Unassigned

-- more of the default at a list's end changes no look-up
padded : {C : Type 0} (l : List C) (d : C) (more k : ℕ) → get_or (l ++ replicate more d) k d ≡ get_or l k d
padded [] d zero k = refl
padded [] d (suc more) zero = refl
padded [] d (suc more) (suc k) = padded [] d more k
padded (x ∷ l) d more zero = refl
padded (x ∷ l) d more (suc k) = padded l d more k

by_row : {C : Type 0} (f : ℕ → C) (g : Operation → C) (table : List ℕ) → map f table ≡ map g rows
    → f 0 ≡ g Operation.Unassigned → (k : ℕ) → f (get_or table k 0) ≡ g (get_or operations k Operation.Unassigned)
by_row f g table same first k =
    sym (get_or-map f table k 0)
    ∙ ap (λ l. get_or l k (f 0)) same
    ∙ ap (λ d. get_or (map g rows) k d) first
    ∙ get_or-map g rows k Operation.Unassigned
    ∙ ap g (padded operations Operation.Unassigned 24 k)

module _ (table : List ℕ) where
  abbrev pub Accesses : ℕ → Type 0
  Accesses column = map (λ row. (unpacked_task (part column row)).access) table ≡ map operand_use_of rows

  module _ (named : Accumulator) (column : ℕ) where
    -- what the tasks of a column do, and what the operations do
    abbrev pub done : Bool → ℕ → ℕ → Data → List ℕ → Mode → List Effect
    done short operand next d file mode =
        map (λ row. effect_by mode short operand next d file (unpacked_task (part column row))) table

    abbrev pub asked : Bool → ℕ → ℕ → Data → List ℕ → Mode → List Effect
    asked short operand next d file mode = map (effect_of mode named short operand next d (registers_of file)) rows

    abbrev pub Works : Type 0
    Works =
        (short : Bool) (operand next : ℕ) (d : Data) (file : List ℕ)
        → map (done short operand next d file) modes ≡ map (asked short operand next d file) modes

    does : part column 0 ≡ 0 → Accesses column → Works → (k : ℕ)
        → Does named (get_or operations k Operation.Unassigned) (part column (get_or table k 0))
    unfolding unpacked_task by_action effect_of
    does none accesses works k = (
      by_row (λ row. (unpacked_task (part column row)).access) operand_use_of table accesses (rw none refl) k,
      λ mode short operand next d file. by_row
          (λ row. effect_by mode short operand next d file (unpacked_task (part column row)))
          (effect_of mode named short operand next d (registers_of file)) table
          (by_mode (done short operand next d file) (asked short operand next d file) (works short operand next d file)
          (ap (λ l. get_or l 0 []) (works short operand next d file)) mode) (rw none refl) k,
    )

  pub tasked : Accesses 0 → Accesses 1 → Works Accumulator.Unnamed 0 → Works Accumulator.A 0 → Works Accumulator.B 1
      → Tasked table
  unfolding Tasked unpacked
  tasked first second unnamed byA byB n = at (n / 4096 % 4) (n % 128) (omega arith)
    where
      at : (a k : ℕ) → a < 4 → Does (get_or accumulators a Accumulator.Unnamed)
          (get_or operations k Operation.Unassigned)
          (part (pick (eqb a 2) 1 0) (get_or table k 0))
      at zero k h = does Accumulator.Unnamed 0 refl first unnamed k
      at (suc zero) k h = does Accumulator.A 0 refl first byA k
      at (suc (suc zero)) k h = does Accumulator.B 1 refl second byB k
      at (suc (suc (suc zero))) k h = does Accumulator.Unnamed 0 refl first unnamed k
      at (suc (suc (suc (suc a)))) k h = absurd (omega arith)
