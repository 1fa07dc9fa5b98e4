-- Two bits stand for the rules that add a byte; the number of a rule takes its own, and no other number takes one.
-- Assumes nothing.
use mathlib.Core.Path.{◌≡◌}
use Prim.Native.Nat.{ℕ, zero, suc, ◌+◌, ◌*◌, ◌/◌, ◌%◌, ◌^◌, ◌<◌}
use native.Mathlib.Nat.{mod-lt}
use native.Mathlib.Omega.{arith}
use lib.Dec.{eqb}
use lib.ListN.{get_or}
use Rattle.types.specs.declared.code.LengthRule.{LengthRule}
use Rattle.prelude.specs.Choice.{pick}
use Rattle.instructions.specs.CodeMap.{more_bytes, length_at}
use Rattle.prelude.proofs.Choice.{one_or_none}
use Rattle.codepages.specs.Packing.{rules, unpacked}

bit_of_rule : (m x r : ℕ) → r < 4
    → (2 * pick (eqb m 0) 1 0 + 4 * pick (eqb x 0) 1 0) / 2 ^ r % 2 ≡ more_bytes (get_or rules r LengthRule.Fixed) m x
bit_of_rule m x zero h = omega (arith, one_or_none (eqb m 0), one_or_none (eqb x 0))
bit_of_rule m x (suc zero) h = omega (arith, one_or_none (eqb m 0), one_or_none (eqb x 0))
bit_of_rule m x (suc (suc zero)) h = omega (arith, one_or_none (eqb m 0), one_or_none (eqb x 0))
bit_of_rule m x (suc (suc (suc zero))) h = omega (arith, one_or_none (eqb m 0), one_or_none (eqb x 0))
bit_of_rule m x (suc (suc (suc (suc r)))) h = absurd (omega arith)

pub length_by_bits : (n m x bytes at_m at_x : ℕ) → bytes ≡ (unpacked n).bytes → at_m ≡ pick (eqb m 0) 1 0
    → at_x ≡ pick (eqb x 0) 1 0
    → bytes + (2 * at_m + 4 * at_x) / 2 ^ (n / 134217728 % 4) % 2 ≡ length_at (unpacked n) m x
unfolding unpacked
length_by_bits n m x bytes at_m at_x e-bytes e-m e-x =
    rw (e-bytes, e-m, e-x, bit_of_rule m x (n / 134217728 % 4) (mod-lt (n / 134217728) (omega arith)))
