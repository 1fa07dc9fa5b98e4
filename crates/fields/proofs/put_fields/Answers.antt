use Rattle.fields.proofs.Writing.{field_less, no_field_left}
use Rattle.fields.proofs.put_fields.Goals as goal

pub loop-value-preserved : goal.loop-value-preserved
loop-value-preserved c =
    let loop = c.loop-value in
    field_less c.args.bytes.now c.args.from c.args.size c.args.values.now
    loop.bytes loop.at loop.value-index c.loop-value-test.true loop.invariant
    c.put_field.new.bytes c.put_field.ensures

pub returns : goal.returns
returns c =
    let loop = c.loop-value in
    no_field_left c.args.bytes.now c.args.from c.args.size c.args.values.now
    loop.bytes loop.at loop.value-index c.loop-value-test.false loop.invariant
