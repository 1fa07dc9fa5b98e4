-- 11's three causes in their order: none, over the limit, more than the base's number.
use mathlib.Core.Path.{refl}
use native.Mathlib.Omega.{arith}
use borrow.Author.Tests.{lt-ltb, le-leb, lt-leb}
use Rattle.execution.specs.Run.{ram_fits, ram_limit}
use Rattle.statebytes.proofs.ram_fits.Goals as goal

pub returns-then-n-eq0 : goal.returns-then-n-eq0
unfolding ram_fits
returns-then-n-eq0 c = rw c.if-n-eq0.true

pub returns-then-n-gt-RAM_LIMIT : goal.returns-then-n-gt-RAM_LIMIT
unfolding ram_fits
returns-then-n-gt-RAM_LIMIT c =
    let n = c.args.n in
    rw (lt-ltb 0 n (omega arith), lt-leb n ram_limit c.if-n-gt-RAM_LIMIT.true)

pub returns : goal.returns
unfolding ram_fits
returns c =
    let n = c.args.n in
    rw (lt-ltb 0 n (omega arith), le-leb n ram_limit c.if-n-gt-RAM_LIMIT.false) refl
