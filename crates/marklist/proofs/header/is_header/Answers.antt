-- The text is compared with the first line of what it shows, written into a line of its own.
use Rattle.lists.specs.MarkList as spec
use Rattle.lists.specs.MarkList.{digits_by}
use borrow.Author.Tests.{lt-ltb, le-ltb}
use Rattle.marklist.proofs.HeaderLaws.{small_header, line_long, line_begin, begin_long}
use Rattle.marklist.proofs.header.is_header.Goals as goal

pub returns-then-h-ge-LENGTH_LIMIT : goal.returns-then-h-ge-LENGTH_LIMIT
unfolding spec.is_header
returns-then-h-ge-LENGTH_LIMIT c = rw (le-ltb c.args.h.length spec.length_limit c.if-h-ge-LENGTH_LIMIT.true)

pub put_header-requires : goal.put_header-requires
put_header-requires c =
    let args = c.args in
    small_header args.old args.h

pub slice_bounds-line-end : goal.slice_bounds-line-end
slice_bounds-line-end c =
    line_long (digits_by c.args.old)
    c.args.h c.header_size-n.result
    c.put_header.new.page _ c.header_size-n.ensures c.put_header.ensures

pub slice_bounds-starts_with-end : goal.slice_bounds-starts_with-end
slice_bounds-starts_with-end c =
    begin_long (digits_by c.args.old)
    c.args.h c.header_size-n.result
    c.put_header.new.page _ c.header_size-n.ensures c.put_header.ensures

pub returns : goal.returns
unfolding spec.is_header
returns c =
    let size = c.header_size-n in
    let args = c.args in
    let begin =
    line_begin (digits_by args.old) args.h size.result c.put_header.new.page _ size.ensures
    c.put_header.ensures in
    rw (lt-ltb args.h.length spec.length_limit c.if-h-ge-LENGTH_LIMIT.false) (rw begin at c.starts_with.ensures)
