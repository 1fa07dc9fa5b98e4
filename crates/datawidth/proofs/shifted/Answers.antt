-- No bit is lost: data has 16 bits and moves by less than 16.
use Rattle.datawidth.proofs.Outside.{shifted_whole}
use native.Mathlib.Omega.{arith}
use Rattle.datawidth.proofs.shifted.Goals as goal

pub returns : goal.returns
returns c = shifted_whole c.args.v c.args.n (omega arith) c.requires
