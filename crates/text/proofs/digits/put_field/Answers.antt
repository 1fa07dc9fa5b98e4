-- The digits are in front, the closing byte behind them.
use mathlib.Core.List.{[], ◌∷◌}
use mathlib.Core.Path.{refl}
use Rattle.text.specs.Digits.{digits}
use Rattle.text.proofs.DigitLaws.{length_digits}
use native.Mathlib.Omega.{arith}
use Rattle.text.proofs.Pages.{Front, front_next}
use Rattle.text.proofs.digits.put_field.Goals as goal

pub returns : goal.returns
returns c =
    let args = c.args in
    let digits-put : Front args.page.now args.count (digits args.radix args.count args.n)
    c.put_digits.new.page =
    record {
      same = c.put_digits.ensures;
      long = length_digits args.radix args.count args.n;
      room = omega (arith, c.requires.2);
    } in
    (front_next 1 (c.args.close ∷ []) c.put_byte.new.page digits-put
    c.put_byte.ensures refl c.requires.2).same
