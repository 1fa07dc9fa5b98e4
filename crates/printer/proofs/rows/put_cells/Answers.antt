use Rattle.reports.specs.PrintedPage.{cell_count, cell}
use Rattle.reports.proofs.PrintedPage.{length_cell}
use Rattle.text.proofs.Pages.{front_length, front_inside, part_room}
use Rattle.printer.proofs.Pieces.{no_piece}
use Rattle.printer.proofs.RowLaws.{cell_fits, next_cell, all_cells}
use Rattle.printer.proofs.rows.put_cells.Goals as goal

pub loop-k-init : goal.loop-k-init
loop-k-init c =
    let args = c.args in
    no_piece (cell args.bytes.now) cell_count args.page.now

pub slice_bounds-put_bytes-count : goal.slice_bounds-put_bytes-count
slice_bounds-put_bytes-count c = front_inside c.loop-k.invariant.front

pub put_bytes-requires : goal.put_bytes-requires
put_bytes-requires c =
    let loop = c.loop-k in
    rw (c.cell.ensures, length_cell c.args.bytes.now loop.k)
    (part_room 3 loop.invariant.front (cell_fits c.args.bytes.now c.args.page.now loop.page loop.k
    c.requires c.loop-k-test.true loop.invariant))

pub loop-k-preserved : goal.loop-k-preserved
loop-k-preserved c =
    let loop = c.loop-k in
    next_cell c.args.bytes.now c.args.page.now loop.page loop.k c.requires
    c.loop-k-test.true loop.invariant c.cell.result c.put_bytes.new.page c.cell.ensures
    c.put_bytes.ensures

pub shape_of-page : goal.shape_of-page
shape_of-page c = front_length c.loop-k.invariant.front

pub returns : goal.returns
returns c =
    let args = c.args in
    let loop = c.loop-k in
    all_cells args.bytes.now args.page.now loop.page loop.k c.loop-k-test.false loop.invariant
