-- The address is in front, the fields behind it; for no start nothing is written.
use mathlib.Core.Path.{sym}
use native.Mathlib.Omega.{arith}
use Rattle.lists.specs.MarkList as spec
use Rattle.text.proofs.Pages.{front_inside, part_room}
use Rattle.marklist.proofs.LineLaws.{start_size, line_room, address_put, line_put}
use Rattle.marklist.proofs.lines.put_line.Goals as goal

pub returns-then-not-is_start : goal.returns-then-not-is_start
unfolding spec.line_size spec.line_of
returns-then-not-is_start c =
    let none = rw c.is_start.ensures at c.if-not-is_start.true in
    (rw none, rw none)

pub put_digits-requires : goal.put_digits-requires
put_digits-requires c = (
  omega arith,
  omega arith,
  omega (
    arith,
    line_room spec.new_digits c.args.address c.args.mark c.args.page.now
        (rw c.is_start.ensures at c.if-not-is_start.false) c.requires,
  ),
)

pub slice_bounds-put_bytes-count : goal.slice_bounds-put_bytes-count
slice_bounds-put_bytes-count c =
    let args = c.args in
    front_inside (address_put spec.new_digits args.address args.mark args.page.now
    (rw c.is_start.ensures at c.if-not-is_start.false)
    c.requires
    c.put_digits.ensures)

pub put_bytes-requires : goal.put_bytes-requires
unfolding spec.fields
put_bytes-requires c =
    let args = c.args in
    let front =
    address_put spec.new_digits args.address args.mark args.page.now (rw c.is_start.ensures at c.if-not-is_start.false)
    c.requires
    c.put_digits.ensures in
    rw c.fields.ensures (part_room 11 front (line_room spec.new_digits c.args.address c.args.mark c.args.page.now
    (rw c.is_start.ensures at c.if-not-is_start.false) c.requires))

pub returns : goal.returns
unfolding spec.fields
returns c =
    let args = c.args in
    let front =
    address_put spec.new_digits args.address args.mark args.page.now (rw c.is_start.ensures at c.if-not-is_start.false)
    c.requires
    c.put_digits.ensures in
    let got = rw c.fields.ensures at c.put_bytes.ensures in
    let page =
    line_put spec.new_digits args.address args.mark args.page.now (rw c.is_start.ensures at c.if-not-is_start.false)
    c.requires
    c.put_bytes.new.page front got in
    (sym (start_size spec.new_digits args.mark (rw c.is_start.ensures at c.if-not-is_start.false)), page)

pub slice_bounds-put_bytes-start : goal.slice_bounds-put_bytes-start
slice_bounds-put_bytes-start c = slice_bounds-put_bytes-count c
