-- Two registers, then the status, each in its place of the file.
use native.Mathlib.Omega.{arith}
use Rattle.machine.proofs.Committed.{put_settled}
use Rattle.machine.proofs.commit.put.Goals as goal

pub returns : goal.returns
returns c =
    put_settled c.args.registers.now c.args.effect c.args.i c.settled.result (omega arith) c.requires c.settled.ensures
