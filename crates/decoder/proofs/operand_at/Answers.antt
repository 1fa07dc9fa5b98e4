-- The operand is the low bytes of six, or, near the end of the image, the number of a part.
use Rattle.decoder.proofs.Operands.{operand_of_six, operand_of_part, operand_small}
use Rattle.prelude.specs.Bytes.{AllBytes}
use native.Mathlib.Omega.{arith}
use Rattle.decoder.proofs.operand_at.Goals as goal

pub returns-then-from-image : goal.returns-then-from-image
returns-then-from-image c =
    let args = c.args in
    let pre = c.requires in
    let bytes : AllBytes args.image.now = λ k. omega (arith, c.type_inv.image k) in
    let value =
    operand_of_six args.image.now args.at args.layout.prefix args.layout.length c.low_bytes.result
    bytes pre.1 pre.2 (rw (← c.six_bytes.ensures) c.low_bytes.ensures) in
    let few =
    operand_small args.image.now args.at args.layout.prefix args.layout.length c.low_bytes.result
    bytes pre.2 in
    (value, rw value few)

pub returns : goal.returns
returns c =
    let args = c.args in
    let pre = c.requires in
    let bytes : AllBytes args.image.now = λ k. omega (arith, c.type_inv.image k) in
    let value =
    operand_of_part args.image.now args.at args.layout.prefix args.layout.length c.number.result
    pre.1 pre.2 c.number.ensures in
    let few =
    operand_small args.image.now args.at args.layout.prefix args.layout.length c.number.result
    bytes pre.2 in
    (value, rw value few)
