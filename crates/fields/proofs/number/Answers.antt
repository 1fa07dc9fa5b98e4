use Rattle.std.proofs.Common.{rules, ◌≡◌, ◌∙◌, reverse, arith}
use Rattle.std.specs.List.{fold}
use Rattle.fields.proofs.Reading.{with_byte, read_from_last}
use Rattle.fields.proofs.number.Goals as goal

pub returns : goal.returns
returns c =
    let folded : c.fold.result ≡ fold with_byte 0 (reverse c.args.bytes.now) = search rules in
    folded ∙ read_from_last c.args.bytes.now (λ k. omega (arith, c.type_inv.bytes k))
