use Rattle.std.proofs.Common.{arith}
use Rattle.execution.specs.StateBytes.{state_of}
use Rattle.statebytes.proofs.Entries.{all_read}
use Rattle.statebytes.proofs.calls_of.Goals as goal

pub returns : goal.returns
unfolding state_of
returns c =
    all_read c.args.bytes.now c.loop-i.call-items c.loop-i-test.array_long
    (λ k inside. c.loop-i.invariant k (omega (arith, c.loop-i-test.false)))
