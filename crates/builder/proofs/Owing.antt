-- What a start requires are marks of starts.
-- Assumes nothing.
use Rattle.std.specs.Prelude.{Ok, Err}
use mathlib.Core.Path.{◌≡◌}
use mathlib.Core.Bool.{true}
use mathlib.Core.List.{List}
use Prim.Native.Nat.{ℕ}
use lib.ListN.{get_or}
use Rattle.types.specs.declared.code.Flow.{Flow}
use Rattle.types.specs.declared.rules.Requirements.{Requirements}
use Rattle.types.specs.Answers.{Decoded}
use Rattle.acceptance.specs.Image.{is_start}
use Rattle.acceptance.specs.Rules.{instruction_at, owed_by, owed_at}
use Rattle.acceptance.proofs.Widths.{after_start, routine_start, on_return_start}
use Rattle.builder.specs.Order.{owed_of, owed_behind}

abbrev pub StartsOwed : Requirements → Type 0
StartsOwed Requirements.Nothing = Unit {0}
StartsOwed (Requirements.One w) = is_start w.mark ≡ true
StartsOwed (Requirements.Two v w) = (is_start v.mark ≡ true) × (is_start w.mark ≡ true)

by_flow : (flow : Flow) (mark after next to there : ℕ) → is_start after ≡ true
    → StartsOwed (owed_by flow mark after next to there)
unfolding owed_by
by_flow Flow.Next mark after next to there odd = odd
by_flow Flow.Branch mark after next to there odd = (odd, odd)
by_flow Flow.Jump mark after next to there odd = odd
by_flow (Flow.Call kind) mark after next to there odd = (routine_start kind mark there, on_return_start mark there)
by_flow (Flow.Return kind) mark after next to there odd = tt
by_flow Flow.Halt mark after next to there odd = tt

pub starts_owed : (image marks : List ℕ) (base at : ℕ) → StartsOwed (owed_behind image marks base at)
unfolding owed_of owed_at
starts_owed image marks base at = by (instruction_at image marks at)
  where
    by : (d : Decoded) → StartsOwed (owed_of marks base at d)
    by (Ok i) =
        by_flow i.entry.flow (get_or marks at 0) _ _ _ _ (after_start i.entry.effect i.operand (get_or marks at 0))
    by (Err why) = tt
