-- Under the base nothing stands; from the base on the layout at the image's place decides, at the widths in force.
use Rattle.std.proofs.lemmas.Result.{err_from_is_err_and}
use mathlib.Core.Path.{refl, ap, ◌∙◌}
use Prim.Native.Nat.{ℕ, ◌-◌}
use native.Mathlib.Omega.{arith}
use Rattle.types.specs.declared.code.Instruction.{Instruction}
use Rattle.codepages.specs.Packing.{unpacked}
use Rattle.decoder.proofs.Layouts.{fits_at, decoded_fits, decoded_not}
use Rattle.semantics.proofs.Step.{fetched_under}
use Rattle.machine.proofs.Fetching.{fetched_at}
use Rattle.machine.proofs.fetch.fetch_at.Goals as goal

pub returns-then-number-base-clause-fetched : goal.returns-then-number-base-clause-fetched
returns-then-number-base-clause-fetched c =
    let a = c.args in
    λ ram core there same. fetched_under ram a.image.now a.base core c.number-number.result
    (c.number-number.ensures.0 ∙ there) c.if-number-base.true

pub operand_at-requires : goal.operand_at-requires
operand_at-requires c =
    fits_at c.args.image.now (c.number-number.result - c.args.base) c.bit_at-m.result c.bit_at-x.result _
    c.in_ok-layout.ensures _ refl

pub invariant_of-result : goal.invariant_of-result
invariant_of-result c =
    let a = c.args in
    let fits =
    fits_at a.image.now (c.number-number.result - a.base) c.bit_at-m.result c.bit_at-x.result _
    c.in_ok-layout.ensures _ refl in
    record { inside = c.number-number.ensures.1; bounded = (fits.2, c.operand_at.ensures.1) }

pub returns-in_err-layout-clause-fetched : goal.returns-in_err-layout-clause-fetched
returns-in_err-layout-clause-fetched c =
    let a = c.args in
    let p = err_from_is_err_and c.from_residual.result c.from_residual.ensures.1 in
    rw (p.1, p.2)
    (λ ram core there. fetched_at a.image.now a.base c.number-number.result a.status c.requires.0 c.requires.1
    (omega (arith, c.if-number-base.false)) c.bit_at-m.result c.bit_at-x.result c.bit_at-m.ensures.0
    c.bit_at-x.ensures.0 _
    (decoded_not a.image.now (c.number-number.result - a.base) c.bit_at-m.result c.bit_at-x.result _
    c.in_err-layout.ensures refl)
    ram core (c.number-number.ensures.0 ∙ there))

pub returns-clause-fetched : goal.returns-clause-fetched
returns-clause-fetched c =
    let a = c.args in
    let f = c.in_ok-layout.layout in
    let with-operand : ℕ → Instruction =
    λ n. record { entry = unpacked f.number; length = f.length; operand = n } in
    λ ram core there. fetched_at a.image.now a.base c.number-number.result a.status c.requires.0 c.requires.1
    (omega (arith, c.if-number-base.false)) c.bit_at-m.result c.bit_at-x.result c.bit_at-m.ensures.0
    c.bit_at-x.ensures.0 _
    (decoded_fits a.image.now (c.number-number.result - a.base) c.bit_at-m.result c.bit_at-x.result _
    c.in_ok-layout.ensures _ _ refl
    (ap with-operand c.operand_at.ensures.0))
    ram core (c.number-number.ensures.0 ∙ there)
