-- The mnemonic's letters and the last.
use Rattle.entries.proofs.Words.{word_columns}
use Rattle.entries.proofs.operations.syntax_word.Goals as goal

pub returns : goal.returns
returns c =
    word_columns c.args.n c.word_of-word.result c.last_letter.result
    c.word_of-word.ensures c.last_letter.ensures
