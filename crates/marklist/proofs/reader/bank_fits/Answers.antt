-- Asked of old lists alone.
use native.Mathlib.Nat.{mod-lt}
use native.Mathlib.Omega.{arith}
use Rattle.types.specs.Addresses.{bank_size}
use Rattle.marklist.proofs.reader.bank_fits.Goals as goal

pub returns-then-not-old : goal.returns-then-not-old
returns-then-not-old c = rw c.if-not-old.true

pub overflow_add-result : goal.overflow_add-result
overflow_add-result c = omega (arith, c.requires, mod-lt c.args.base {m = bank_size} (omega arith))

pub returns : goal.returns
returns c = rw c.if-not-old.false
