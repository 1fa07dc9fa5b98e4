-- What each action does: the operations of semantics/specs/Effects.antt, those that differ in a register or a value
-- alone in one line. That they are those operations is said of the table of tasks (operations/specs/Table.antt).
-- Assumes nothing.
use Rattle.std.specs.Prelude.{ℕ, ◌+◌, ◌/◌, ◌%◌, ◌^◌, Bool, not, List, [], ◌∷◌, eqb, ltb, get_or}
use Rattle.std.specs.Int.Bits.{bit_and, bit_or}
use Rattle.types.specs.declared.code.Mode.{Mode}
use Rattle.types.specs.declared.machine.Data.{Data}
use Rattle.types.specs.declared.machine.Status.{Status}
use Rattle.anywidth.specs.AnyWidth.{merged, decremented, cleared_by}
use Rattle.semantics.specs.Addressing.{bits, operand_place_of}
use Rattle.semantics.specs.Arithmetic.{with_result, with_flags_set, with_flags_cleared}
use Rattle.prelude.specs.Choice.{pick}
use Rattle.semantics.specs.Effects.{Effect, pushes, behind_address}
use Rattle.types.specs.Addresses.{bank_size}
use Rattle.types.specs.Status.{number_of, is_set}
use Rattle.cpu.specs.declared.arithmetic.Combination.{Combination}
use Rattle.cpu.specs.File.{registers_of}
use Rattle.cpu.specs.FileEffects.{status, putting, leaving, loading, combining, comparing, rotating, modified}
use Rattle.cpu.specs.FileEffects.{modifying, transferring, pulling, swapping, storing, branching}
use Rattle.actions.specs.declared.tasks.Action.{Action}
use Rattle.actions.specs.Tasks.{Task, modification_of}

-- what is loaded or moved: the data, or, by choices from 16 on, a register
abbrev pub word_of : ℕ → List ℕ → ℕ → ℕ
word_of v file choice = pick (ltb choice 16) v (get_or file (choice % 8) 0)

-- what is stored or pushed: one of the others by choices from 1 on, or what is loaded
abbrev pub others : Mode → Bool → ℕ → ℕ → List ℕ → List ℕ
others mode short operand next file =
    operand ∷ (next + operand) ∷ (next / bank_size) ∷ behind_address mode short operand ∷ (registers_of file).dt ∷
    number_of (status file) ∷ []

abbrev pub value_of : Mode → Bool → ℕ → ℕ → ℕ → List ℕ → ℕ → ℕ
value_of mode short operand next v file choice =
    get_or (word_of v file choice ∷ others mode short operand next file) choice (word_of v file choice)

-- the mask of the flags that are changed: the data, C, I or V
abbrev pub mask_of : ℕ → ℕ → ℕ
mask_of v choice = get_or (v ∷ 1 ∷ 4 ∷ 64 ∷ []) choice v

-- a number counted up or down by one
abbrev pub counted : ℕ → Bool → ℕ → ℕ
counted n down v = pick down (decremented n v) (v + 1)

-- flags that a mask names, as they are wanted
abbrev pub with_flags : Bool → ℕ → Status → Status
with_flags wanted mask s = pick wanted (with_flags_set mask s) (with_flags_cleared mask s)

-- bits that a mask names, as they are wanted; those of them that are not so
abbrev pub with_bits : Bool → ℕ → ℕ → ℕ → ℕ
with_bits wanted n mask v = pick wanted (bit_or v mask) (cleared_by n mask v)

abbrev pub other_bits : Bool → ℕ → ℕ → ℕ → ℕ
other_bits wanted n mask v = pick wanted (cleared_by n v mask) (bit_and v mask)

-- a flag is as it is wanted
abbrev pub is_wanted : Bool → Bool → Bool
is_wanted wanted flag = pick wanted flag (not flag)

module _ (mode : Mode) (short : Bool) (operand next : ℕ) (d : Data) (file : List ℕ) where
  abbrev v : ℕ
  v = d.value

  abbrev n : ℕ
  n = bits short

  abbrev behind : ℕ
  behind = behind_address mode short operand

  abbrev value : ℕ → ℕ
  value = value_of mode short operand next v file

  unfoldable pub by_action : Action → ℕ → ℕ → Effect
  by_action Action.Leave choice to = leaving file (status file)
  by_action Action.Load choice to = loading file to short (word_of v file choice) (status file)
  by_action Action.Move choice to = putting file to (word_of v file choice) (status file)
  by_action Action.Store choice to = storing file short d.address (value choice)
  by_action Action.Push choice to = pushes short (value choice) (registers_of file)
  by_action Action.Pull choice to = pulling file to short (merged n (get_or file to 0) v)
      (with_result n v (status file))
  by_action Action.PullWhole choice to =
      pulling file to short v (pick (eqb choice 1) (with_result n v (status file)) (status file))
  by_action Action.Add choice to = combining file to short Combination.Add v
  by_action Action.Subtract choice to = combining file to short Combination.Subtract v
  by_action Action.And choice to = combining file to short Combination.And v
  by_action Action.Or choice to = combining file to short Combination.Or v
  by_action Action.ExclusiveOr choice to = combining file to short Combination.ExclusiveOr v
  by_action Action.Compare choice to = comparing file to short v
  by_action Action.Count choice to = loading file to short (counted n (eqb choice 1) (get_or file to 0)) (status file)
  by_action Action.Modify choice to =
      modifying file to short (operand_place_of mode) d.address (modified (modification_of choice) n v (status file))
  by_action Action.Rotate choice to = rotating file to short v
  by_action Action.Swap choice to = swapping file short
  by_action Action.ChangeBits choice to = storing file short d.address (with_bits (eqb to 1) n behind v)
  by_action Action.ChangeFlags choice to = leaving file (with_flags (eqb to 1) (mask_of v choice) (status file))
  by_action Action.Branch choice to = branching file
      (is_wanted (eqb to 1) (is_set (2 ^ (choice % 8)) (get_or file 7 0)))
  by_action Action.BranchBits choice to = branching file (eqb (other_bits (eqb to 1) n behind v) 0)
  by_action Action.Transfer choice to = transferring file to short (get_or file (choice % 8) 0) (status file)

  abbrev pub effect_by : Task → Effect
  effect_by task = by_action task.action task.choice task.destination
