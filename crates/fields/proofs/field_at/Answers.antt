use Rattle.std.proofs.Common.{arith}
use Rattle.fields.proofs.FieldReading.{one_more_read}
use Rattle.fields.proofs.field_at.Goals as goal

pub loop-i-preserved : goal.loop-i-preserved
loop-i-preserved c =
    let loop = c.loop-i in
    one_more_read c.args.bytes.now c.args.at c.args.size loop.value loop.i
    c.loop-i-test.true loop.invariant c.byte_at.result c.byte_at.ensures (omega arith)
