-- The bit of each of the 32 numbers of a mode and the eight of a target, by one computed test of each.
use Prim.Native.Nat.{ℕ, ◌+◌, ◌/◌, ◌%◌, ◌^◌, ◌<◌}
use mathlib.Core.Path.{◌≡◌, refl}
use mathlib.Core.Bool.{Bool, true, false, ◌||◌}
use native.Mathlib.Nat.{mod-lt}
use native.Mathlib.Omega.{arith}
use lib.Dec.{eqb, ltb, eqb→eq}
use lib.ListN.{get_or}
use Rattle.prelude.specs.Choice.{bit}
use Rattle.prelude.proofs.Table.{below_all}
use Rattle.types.specs.declared.code.Mode.{Mode}
use Rattle.types.specs.declared.code.Target.{Target}
use Rattle.instructions.specs.Words.{is_long_mode, is_long_target}
use Rattle.codepages.specs.Packing.{modes, targets, unpacked}
use Rattle.entries.proofs.operations.is_long.Goals as goal

abbrev longMode : ℕ → Bool
longMode k = is_long_mode (get_or modes k Mode.Implied)

abbrev longTarget : ℕ → Bool
longTarget k = is_long_target (get_or targets k Target.NoTarget)

mode-bit : (k : ℕ) → k < 32 → 0x80C00 / 2 ^ k % 2 ≡ bit (longMode k)
mode-bit k h = eqb→eq _ _ (below_all (λ k. eqb (0x80C00 / 2 ^ k % 2) (bit (longMode k))) 32 tt k h)

target-bit : (k : ℕ) → k < 8 → 0x14 / 2 ^ k % 2 ≡ bit (longTarget k)
target-bit k h = eqb→eq _ _ (below_all (λ k. eqb (0x14 / 2 ^ k % 2) (bit (longTarget k))) 8 tt k h)

either : (a b : Bool) → ltb 0 (bit a + bit b) ≡ (a || b)
either true true = refl
either true false = refl
either false true = refl
either false false = refl

pub returns : goal.returns
unfolding unpacked
returns c =
    let n = c.args.n in
    rw (
      mode-bit (n / 128 % 32) (mod-lt (n / 128) (omega arith)),
      target-bit (n / 262144 % 8) (mod-lt (n / 262144) (omega arith)),
    ) (either (longMode (n / 128 % 32)) (longTarget (n / 262144 % 8)))
