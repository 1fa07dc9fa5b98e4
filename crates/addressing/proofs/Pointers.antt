-- What is asked of an instruction's data, where the code looks for it.
-- Assumes nothing.
use Rattle.std.specs.Prelude.{None}
use mathlib.Core.Path.{◌≡◌, refl, sym}
use mathlib.Core.Bool.{Bool, true, false}
use mathlib.Core.Logic.{◌⊎◌, ⊎_elim}
use Prim.Native.Nat.{ℕ}
use Rattle.addressing.specs.Found.{is_address, residence_by, reached_by, found_at}
use Rattle.memory.specs.Reads.{read_of}
use Rattle.memory.proofs.Views.{read_off}
use Rattle.types.specs.declared.code.Accumulator.{Accumulator as Named}
use Rattle.types.specs.declared.code.Mode.{Mode}
use Rattle.types.specs.declared.machine.OperandUse.{OperandUse}
use Rattle.types.specs.declared.machine.Registers.{Registers}
use Rattle.types.specs.declared.machine.OperandPlace.{OperandPlace}
use Rattle.semantics.specs.Memory.{Memory, ret, ◌>>=◌, evaluate, read_data}
use Rattle.semantics.specs.Addressing.{data_at, address_of, operand_place_of, operand_by, data_of}

-- where the address can't be read, neither it alone nor the data there is found
pub nowhere : (m : Memory) (mode : Mode) (r : Registers) (short : Bool) (operand : ℕ) (alone : Bool)
    → None ≡ read_of (evaluate m (address_of mode r operand))
    → None ≡ read_of (evaluate m (reached_by alone mode r short operand))
nowhere m mode r short operand true e =
    sym (read_off m (address_of mode r operand) (λ at. ret (data_at at 0)) None e refl)
nowhere m mode r short operand false e =
    sym (read_off m (address_of mode r operand) (λ at. read_data short at >>= (λ v. ret (data_at at v))) None e refl)

-- what is asked of the mode's data, where the code looks for it
module _ (mode : Mode) (register : Named) (r : Registers) (short : Bool) (operand : ℕ) where
  operand_found : (place : OperandPlace)
      → operand_by place mode register r short operand ≡ found_at place false mode register r short operand
  unfolding operand_by
  operand_found OperandPlace.Memory = refl
  operand_found OperandPlace.Instruction = refl
  operand_found OperandPlace.Register = refl

  pub asked : (access : OperandUse)
      → access ≡ OperandUse.Operand ⊎ (access ≡ OperandUse.Addend ⊎ access ≡ OperandUse.Address)
      → data_of access mode register r short operand
      ≡ found_at (residence_by (is_address access) mode) (is_address access) mode register r short operand
  unfolding data_of
  asked OperandUse.Operand h = operand_found (operand_place_of mode)
  asked OperandUse.Addend h = operand_found (operand_place_of mode)
  asked OperandUse.Address h = refl
  asked OperandUse.Pull h = ⊎_elim (λ e. cc) (λ h'. ⊎_elim (λ e. cc) (λ e. cc) h') h
  asked OperandUse.DirectWord h = ⊎_elim (λ e. cc) (λ h'. ⊎_elim (λ e. cc) (λ e. cc) h') h
