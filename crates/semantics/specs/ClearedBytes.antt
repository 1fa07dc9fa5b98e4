-- The upper byte of X and Y after an operation whose data has 8 bits, as all data of the index's length has under x=1.
-- Assumes nothing.
use Rattle.std.specs.Prelude.{◌≡◌, List, [], ◌∷◌, ℕ, ◌/◌, true}
use Rattle.types.specs.declared.code.Operation.{Operation}
use Rattle.types.specs.declared.code.Operation.TheVariants as ops
use ops.{CLP, SEP, TAX, TAY, TBX, TBY, TSX, TXY, TYX}
use Rattle.types.specs.declared.code.Mode.{Mode}
use Rattle.types.specs.declared.code.Accumulator.{Accumulator}
use Rattle.types.specs.declared.machine.Registers.{Registers}
use Rattle.types.specs.declared.machine.Data.{Data}
use Rattle.prelude.specs.Choice.{pick}
use Rattle.anywidth.specs.AnyWidth.{size}
use Rattle.instructions.specs.Operations.{is_in, by_index}
use Rattle.semantics.specs.Effects.{effect_of}
use Rattle.prelude.specs.Lists.{Every}

-- manual 4.2: the transfers into X, and those into Y
abbrev pub into_x : List Operation
into_x = TAX ∷ TBX ∷ TSX ∷ TYX ∷ []

abbrev pub into_y : List Operation
into_y = TAY ∷ TBY ∷ TXY ∷ []

abbrev pub upper : ℕ → ℕ
upper v = v / size 8

-- 02, R-3: 'for every register transfer into X or Y under x=1: the upper byte becomes 00. Loads, pulls, INX and the
-- like still leave it'; SEP and CLP, which set and clear x, leave it too
pub record ClearedBytes (mode : Mode) (named : Accumulator) (operand next : ℕ) (d : Data) (r : Registers) : Type 0 where
  pub of_x : Every
      (λ o. upper (effect_of mode named true operand next d r o).registers.x ≡ pick (is_in into_x o) 0 (upper r.x))
      (SEP ∷ CLP ∷ by_index)
  pub of_y : Every
      (λ o. upper (effect_of mode named true operand next d r o).registers.y ≡ pick (is_in into_y o) 0 (upper r.y))
      (SEP ∷ CLP ∷ by_index)
