-- The record of an open call gives back its return address and its kind, in eight bytes; and a return is astray (24:
-- 'no open call, other kind, or pulled address not the open call's') exactly unless a call is open and has its kind and
-- the pulled address.
-- Assumes nothing.
use mathlib.Core.Path.{◌≡◌}
use mathlib.Core.Logic.{◌↔◌}
use mathlib.Core.Bool.{true, ◌&&◌}
use Prim.Native.Nat.{ℕ, ◌≤◌, ◌<◌, ◌^◌}
use native.Mathlib.Omega.{arith}
use lib.Dec.{eqb, ltb}
use borrow.Author.Tests.{eqb-true, ltb-true, eq-eqb, lt-ltb}
use Rattle.types.specs.declared.code.Kind.{Kind}
use Rattle.types.specs.declared.code.Instruction.{Instruction}
use Rattle.types.specs.declared.machine.Core.{Core}
use Rattle.types.specs.Addresses.{address_limit}
use Rattle.instructions.specs.Successors.{kind_number}
use Rattle.semantics.specs.Step.{call_record, return_of, kind_of, is_return}
use Rattle.prelude.proofs.Choice.{both_true}

pub record_whole : (address kind : ℕ) → address < address_limit → kind ≤ 3
    → (call_record address kind < 256 ^ 8) × (return_of (call_record address kind) ≡ address)
    × (kind_of (call_record address kind) ≡ kind)
record_whole address kind low few = (omega arith, omega arith, omega arith)

pub returns_own : (c : Core) (i : Instruction) (entry : ℕ) (kind : Kind) (address : ℕ)
    → (is_return c i entry kind address ≡ true)
    ↔ ((0 < c.depth) × (kind_of entry ≡ kind_number kind) × (return_of entry ≡ address))
returns_own c i entry kind address = (
  own,
  λ h. rw (lt-ltb 0 c.depth h.0, eq-eqb (kind_of entry) (kind_number kind) h.1)
      (eq-eqb (return_of entry) address h.2),
)
  where
    own : is_return c i entry kind address ≡ true
        → (0 < c.depth) × (kind_of entry ≡ kind_number kind) × (return_of entry ≡ address)
    own h =
        let all =
        both_true (ltb 0 c.depth && eqb (kind_of entry) (kind_number kind)) (eqb (return_of entry) address) h in
        let two = both_true (ltb 0 c.depth) (eqb (kind_of entry) (kind_number kind)) all.0 in (
          ltb-true 0 c.depth two.0,
          eqb-true (kind_of entry) (kind_number kind) two.1,
          eqb-true (return_of entry) address all.1,
        )
