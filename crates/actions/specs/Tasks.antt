-- A task, and how the code keeps it in 16 bits of a number.
-- Assumes nothing.
use Rattle.std.specs.Prelude.{ℕ, ◌/◌, ◌%◌, List, [], ◌∷◌, get_or}
use Rattle.types.specs.declared.machine.OperandUse.{OperandUse}
use Rattle.actions.specs.declared.tasks.Action.{Action}
use Rattle.cpu.specs.declared.arithmetic.Modification.{Modification}

-- What is done; with which value, flag or mask or in which way, where the action has a choice; the register's place in
-- the file, or 1 where flags or bits are wanted set; and what is asked of memory. ActionEffects.antt says it action
-- by action.
pub record Task : Type 0 where
  pub action : Action
  pub choice : ℕ
  pub destination : ℕ
  pub access : OperandUse

-- each field's values in the order of their numbers
abbrev pub actions : List Action
actions =
    Action.Leave ∷ Action.Load ∷ Action.Move ∷ Action.Store ∷ Action.Push ∷ Action.Pull ∷ Action.PullWhole ∷
    Action.Add ∷ Action.Subtract ∷ Action.And ∷ Action.Or ∷ Action.ExclusiveOr ∷ Action.Compare ∷ Action.Count ∷
    Action.Modify ∷ Action.Rotate ∷ Action.Swap ∷ Action.ChangeBits ∷ Action.ChangeFlags ∷ Action.Branch ∷
    Action.BranchBits ∷ Action.Transfer ∷ []

abbrev pub accesses : List OperandUse
accesses = OperandUse.Operand ∷ OperandUse.Addend ∷ OperandUse.Address ∷ OperandUse.Pull ∷ OperandUse.DirectWord ∷ []

-- the task that a number keeps
unfoldable pub unpacked_task : ℕ → Task
unpacked_task n = record {
  action = get_or actions (n % 32) Action.Leave;
  choice = n / 32 % 32;
  destination = n / 1024 % 8;
  access = get_or accesses (n / 8192) OperandUse.Operand;
}

-- how data is modified: the choices in the order of their numbers; any other number is the first's
abbrev pub modifications : List Modification
modifications =
    Modification.ShiftLeft ∷ Modification.ShiftRight ∷ Modification.RotateLeft ∷ Modification.RotateRight ∷
    Modification.Increment ∷ Modification.Decrement ∷ []

abbrev pub modification_of : ℕ → Modification
modification_of choice = get_or modifications choice Modification.ShiftLeft
