-- The offset's field is put behind the number's.
use Rattle.answer.proofs.PutLaws.{refused_put}
use Rattle.answer.proofs.lines.put_refused.Goals as goal

pub returns : goal.returns
returns c =
    refused_put c.args.number c.args.offset c.put_letter-at.result c.put_number.result
    c.args.page.now c.put_letter-at.new.page c.put_number.new.page c.requires
    c.put_letter-at.ensures c.put_number.ensures
