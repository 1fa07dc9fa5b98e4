-- The writer has room, and refuses nothing.
use mathlib.Core.Path.{◌∙◌}
use Rattle.builtlist.proofs.Lists.{size_written, page_written_lem}
use Rattle.builtlist.proofs.put_accepted.Goals as goal

pub returns : goal.returns
returns c =
    let args = c.args in
    let size = size_written args.marks.now args.base args.reset c.requires.0 args.page.now c.requires.1
    c.write_list.result c.unwrap_or.result c.write_list.ensures.answer c.unwrap_or.ensures in (
      size,
      c.write_list.ensures.page
          ∙ rw size (page_written_lem args.marks.now args.base args.reset c.requires.0 args.page.now c.requires.1),
    )
