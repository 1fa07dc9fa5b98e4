-- A shift by eight bits for each byte divides by a power of 256; a length below three leaves the whole operand.
use Rattle.fields.proofs.Words.{eight_bits}
use native.Mathlib.Omega.{arith}
use native.Mathlib.Nat.{div-one}
use Prim.Native.Nat.{◌-◌}
use mathlib.Core.Path.{◌≡◌, refl}
use Rattle.successors.proofs.last_byte.Goals as goal

pub returns-then-n-lt2 : goal.returns-then-n-lt2
returns-then-n-lt2 c =
    let none : c.args.n - 2 ≡ 0 = omega arith in
    (rw (none, div-one c.args.operand) refl, omega arith)

pub returns : goal.returns
returns c = (rw (eight_bits (c.args.n - 2)) refl, omega arith)
