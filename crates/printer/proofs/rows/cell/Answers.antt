-- Where a byte is left, its two digits; the higher is its quotient, for it is a byte.
use mathlib.Core.Path.{sym, ap, ◌∙◌}
use Prim.Native.Nat.{◌/◌, ◌%◌}
use native.Mathlib.Omega.{arith}
use borrow.Author.Tests.{ltb-true}
use Rattle.std.proofs.lemmas.List.{get_or_read}
use Rattle.text.specs.Digits.{digit}
use Rattle.printer.proofs.RowLaws.{byte_cell}
use Rattle.printer.proofs.rows.cell.Goals as goal

pub returns-in-Some : goal.returns-in-Some
returns-in-Some c =
    let bytes = c.args.bytes.now in
    let found = c.in-Some.ensures.lookup in
    let inside = ltb-true c.args.k _ (sym found.0) in
    let byte = get_or_read bytes c.args.k _ inside found.1 0 in
    byte_cell bytes c.args.k c.digit.result c.digit-in-Some.result inside (omega (arith, c.type_inv.bytes c.args.k))
    (c.digit.ensures ∙ ap (λ b. digit (b / 16)) byte) (c.digit-in-Some.ensures ∙ ap (λ b. digit (b % 16)) byte)
