-- The register and the step, added.
use mathlib.Core.Path.{◌≡◌, refl, ap, ◌∙◌}
use mathlib.Core.Bool.{Bool, true, false}
use mathlib.Core.List.{List}
use Prim.Native.Nat.{ℕ, ◌+◌}
use native.Mathlib.Omega.{arith}
use lib.ListN.{get_or}
use Rattle.anywidth.specs.AnyWidth.{low, decremented}
use Rattle.semantics.specs.Addressing.{bits}
use Rattle.prelude.specs.Choice.{pick}
use Rattle.cpu.specs.FileEffects.{status, loading}
use Rattle.actions.specs.ActionEffects.{counted}
use Rattle.actions.proofs.counts.Goals as goal

-- one below at 16 bits is one below at 8
lowered : (short : Bool) (v : ℕ) → low (bits short) (v + 65_535) ≡ low (bits short) (decremented (bits short) v)
lowered true v = omega arith
lowered false v = omega arith

counted-so : (file : List ℕ) (to : ℕ) (short down : Bool)
    → loading file to short (get_or file to 0 + pick down 65_535 1) (status file)
    ≡ loading file to short (counted (bits short) down (get_or file to 0)) (status file)
counted-so file to short true = rw (lowered short (get_or file to 0)) refl
counted-so file to short false = refl

pub returns : goal.returns
returns c =
    let a = c.args in
    let file = a.registers.now in (
      c.loads.ensures.0
          ∙ ap (λ v. loading file a.to a.short v (status file)) c.counted-value.ensures
          ∙ counted-so file a.to a.short a.down,
      c.loads.ensures.1,
    )
