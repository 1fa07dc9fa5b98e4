-- Two bytes, and the rest as given.
use Rattle.answer.proofs.PutLaws.{unread_put}
use Rattle.answer.proofs.lines.put_unread.Goals as goal

pub returns : goal.returns
returns c = unread_put c.args.page.now c.requires
