-- The words and the entries, one behind the other, fill all that is lent.
use borrow.Author.Rules.{rules}
use Rattle.statebytes.proofs.Whole.{put_whole}
use Rattle.statebytes.proofs.put_state.Goals as goal

pub returns : goal.returns
returns c =
    put_whole c.args.bytes.now (record { core = c.args.core; calls = c.args.calls.now })
    c.words_of.result c.put_fields.new.bytes c.put_fields-2.new.bytes c.requires
    (search rules) c.words_of.ensures c.put_fields.ensures c.put_fields-2.ensures
