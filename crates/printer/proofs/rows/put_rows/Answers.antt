use Rattle.std.proofs.Common.{◌≤◌, arith, length}
use Rattle.prelude.specs.Concat.{concat_from}
use Rattle.reports.specs.PrintedPage as spec
use Rattle.text.proofs.Pages.{front_length, front_inside, part_room}
use Rattle.printer.proofs.Pieces.{no_piece, piece_fits, next_piece, all_pieces}
use Rattle.printer.proofs.rows.put_rows.Goals as goal

pub loop-at-init : goal.loop-at-init
loop-at-init c =
    let args = c.args in
    no_piece (spec.row_at args.image.now args.marks.now.bytes.now args.marks.now.base) (length args.marks.now.bytes.now)
    args.page.now

pub slice_bounds-put_row_at-count : goal.slice_bounds-put_row_at-count
slice_bounds-put_row_at-count c = front_inside c.loop-at.invariant.front

-- where one more row is to be written
pub put_row_at-written-requires : goal.put_row_at-written-requires
unfolding spec.page_text
put_row_at-written-requires c =
    let args = c.args in
    let loop = c.loop-at in
    let marks = args.marks.now.bytes.now in
    let rows = spec.row_at args.image.now marks args.marks.now.base in
    let room : length (concat_from rows 0 (length marks)) ≤ length args.page.now = c.requires.0 in
    let fits =
    piece_fits rows (length marks) args.page.now loop.page loop.written loop.at room c.loop-at-test.true
    loop.invariant in
    part_room (length (rows loop.at)) loop.invariant.front fits

pub overflow_add-written : goal.overflow_add-written
unfolding spec.page_text
overflow_add-written c =
    let args = c.args in
    let loop = c.loop-at in
    let marks = args.marks.now.bytes.now in
    let rows = spec.row_at args.image.now marks args.marks.now.base in
    let room : length (concat_from rows 0 (length marks)) ≤ length args.page.now = c.requires.0 in
    let fits =
    piece_fits rows (length marks) args.page.now loop.page loop.written loop.at room c.loop-at-test.true
    loop.invariant in
    omega (arith, c.put_row_at-written.ensures.0, fits)

pub loop-at-preserved : goal.loop-at-preserved
unfolding spec.page_text
loop-at-preserved c =
    let args = c.args in
    let loop = c.loop-at in
    let marks = args.marks.now.bytes.now in
    let rows = spec.row_at args.image.now marks args.marks.now.base in
    let room : length (concat_from rows 0 (length marks)) ≤ length args.page.now = c.requires.0 in
    next_piece rows (length marks) args.page.now loop.page loop.written loop.at room c.loop-at-test.true loop.invariant
    c.put_row_at-written.result c.put_row_at-written.new.page c.put_row_at-written.ensures.0
    c.put_row_at-written.ensures.1

pub shape_of-page : goal.shape_of-page
shape_of-page c = front_length c.loop-at.invariant.front

pub returns : goal.returns
unfolding spec.page_text
returns c =
    let args = c.args in
    let loop = c.loop-at in
    all_pieces (spec.row_at args.image.now args.marks.now.bytes.now args.marks.now.base) (length
    args.marks.now.bytes.now)
    args.page.now loop.page loop.written loop.at c.loop-at-test.false loop.invariant
