-- The low 8 bits of a number have nothing above them; merging keeps what lies there.
-- Assumes nothing.
use Prim.Native.Nat.{ℕ}
use native.Mathlib.Omega.{arith}
use Rattle.types.specs.declared.code.Mode.{Mode}
use Rattle.types.specs.declared.code.Accumulator.{Accumulator}
use Rattle.types.specs.declared.machine.Registers.{Registers}
use Rattle.types.specs.declared.machine.Data.{Data}
use Rattle.semantics.specs.Effects.{effect_of}
use Rattle.semantics.specs.ClearedBytes.{ClearedBytes}

pub cleared_bytes : (mode : Mode) (named : Accumulator) (operand next : ℕ) (d : Data) (r : Registers)
    → ClearedBytes mode named operand next d r
unfolding effect_of
cleared_bytes mode named operand next d r = record { of_x = omega arith; of_y = omega arith }
