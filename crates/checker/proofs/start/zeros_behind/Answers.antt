-- The low bytes of six marks are the number of the first of them.
use Rattle.fields.proofs.Fields.{number_first}
use Rattle.prelude.proofs.Bytes.{bytes_drop}
use Rattle.std.proofs.Common.{◌+◌, length, drop, arith, le-leb}
use Rattle.checker.proofs.start.zeros_behind.Goals as goal

pub returns-then-at-marks : goal.returns-then-at-marks
returns-then-at-marks c =
    rw (
      le-leb (c.args.at + 6) (length c.args.marks.now) c.if-at-marks.true,
      c.low_bytes.ensures,
      c.six_bytes.ensures,
      number_first
          (drop c.args.at c.args.marks.now) 6 c.args.n (bytes_drop c.args.at c.args.marks.now (λ k. omega (
            arith,
            c.type_inv.marks k,
          ))) c.requires.1,
    )
