use Rattle.types.proofs.Flags.{as_bit}
use Rattle.types.proofs.machine.U16FromStatus.from.Goals as goal

pub returns : goal.returns
returns c =
    let s = c.args.status in
    rw (
      c.from.ensures,
      c.from-2.ensures,
      c.from-3.ensures,
      c.from-4.ensures,
      c.from-5.ensures,
      c.from-6.ensures,
      c.from-7.ensures,
      c.from-8.ensures,
      as_bit s.carry,
      as_bit s.zero,
      as_bit s.disable,
      as_bit s.decimal,
      as_bit s.x,
      as_bit s.m,
      as_bit s.overflow,
      as_bit s.negative,
    )
