-- Field behind field; the fields joined are the first line.
use native.Mathlib.Omega.{arith}
use lib.ListN.{length-set}
use Rattle.lists.specs.MarkList.{digits_by}
use Rattle.lists.proofs.MarkList.{decimal_most}
use Rattle.text.proofs.Pages.{front_length, front_inside, part_room}
use Prim.Native.Nat.{◌+◌}
use Rattle.marklist.proofs.HeaderLaws.{header_room, letter_put, base_put, length_put, reset_put, header_put}
use Rattle.marklist.proofs.header.put_header.Goals as goal

pub overflow_add-reset_place : goal.overflow_add-reset_place
overflow_add-reset_place c = omega (arith, c.digit_count-count.ensures, decimal_most c.args.h.length)

pub overflow_add-reset_place-2 : goal.overflow_add-reset_place-2
overflow_add-reset_place-2 c = omega (arith, c.digit_count-count.ensures, decimal_most c.args.h.length)

pub bounds-page-0 : goal.bounds-page-0
bounds-page-0 c = omega (
  arith,
  header_room (digits_by c.args.old) c.args.h c.args.page.now c.digit_count-count.result
      c.digit_count-count.ensures c.requires,
)

pub bounds-page-1 : goal.bounds-page-1
bounds-page-1 c = simp length-set (omega (
  arith,
  header_room (digits_by c.args.old) c.args.h c.args.page.now
      c.digit_count-count.result c.digit_count-count.ensures c.requires,
))

pub slice_bounds-put_field-count : goal.slice_bounds-put_field-count
slice_bounds-put_field-count c =
    let args = c.args in
    front_inside (letter_put (digits_by args.old) args.h args.page.now c.digit_count-count.result
    c.digit_count-count.ensures
    c.requires)

pub put_field-requires : goal.put_field-requires
put_field-requires c =
    let args = c.args in
    let front =
    letter_put (digits_by args.old) args.h args.page.now c.digit_count-count.result
    c.digit_count-count.ensures
    c.requires in (
      omega arith,
      omega arith,
      part_room 7 front (omega (
        arith,
        header_room (digits_by c.args.old) c.args.h c.args.page.now c.digit_count-count.result
            c.digit_count-count.ensures c.requires,
      )),
    )

pub slice_bounds-put_field-count-2 : goal.slice_bounds-put_field-count-2
slice_bounds-put_field-count-2 c =
    let args = c.args in
    front_inside (base_put (digits_by args.old) args.h args.page.now c.digit_count-count.result
    c.digit_count-count.ensures c.requires c.put_field.new.page c.put_field.ensures)

pub put_field-requires-2 : goal.put_field-requires-2
put_field-requires-2 c =
    let args = c.args in
    let front =
    base_put (digits_by args.old) args.h args.page.now c.digit_count-count.result
    c.digit_count-count.ensures
    c.requires c.put_field.new.page c.put_field.ensures in (
      omega arith,
      omega arith,
      part_room (c.digit_count-count.result + 1) front
          (omega (
            arith,
            header_room (digits_by c.args.old) c.args.h c.args.page.now c.digit_count-count.result
                c.digit_count-count.ensures c.requires,
          )),
    )

pub slice_bounds-put_field-count-3 : goal.slice_bounds-put_field-count-3
slice_bounds-put_field-count-3 c =
    let args = c.args in
    front_inside (length_put (digits_by args.old) args.h args.page.now c.digit_count-count.result
    c.digit_count-count.ensures c.requires c.put_field.new.page c.put_field.ensures
    c.put_field-2.new.page c.put_field-2.ensures)

pub put_field-requires-3 : goal.put_field-requires-3
put_field-requires-3 c =
    let args = c.args in
    let front =
    length_put (digits_by args.old) args.h args.page.now c.digit_count-count.result
    c.digit_count-count.ensures
    c.requires c.put_field.new.page c.put_field.ensures c.put_field-2.new.page
    c.put_field-2.ensures in
    let reset = c.digits_by.result in (
      omega arith,
      omega arith,
      part_room (reset + 1) front
          (omega (
            arith,
            header_room (digits_by c.args.old) c.args.h c.args.page.now c.digit_count-count.result
                c.digit_count-count.ensures c.requires,
            c.digits_by.ensures,
          )),
    )

pub shape_of-page : goal.shape_of-page
shape_of-page c =
    let got = rw c.digits_by.ensures at c.put_field-3.ensures in
    let args = c.args in
    front_length (reset_put (digits_by args.old) args.h args.page.now c.digit_count-count.result
    c.digit_count-count.ensures c.requires c.put_field.new.page c.put_field.ensures
    c.put_field-2.new.page c.put_field-2.ensures c.put_field-3.new.page got)

pub returns : goal.returns
returns c =
    let got = rw c.digits_by.ensures at c.put_field-3.ensures in
    let args = c.args in
    header_put (digits_by args.old) args.h args.page.now c.digit_count-count.result
    c.digit_count-count.ensures
    c.requires c.put_field.new.page c.put_field.ensures c.put_field-2.new.page
    c.put_field-2.ensures c.put_field-3.new.page got

pub slice_bounds-put_field-start : goal.slice_bounds-put_field-start
slice_bounds-put_field-start c = slice_bounds-put_field-count c

pub slice_bounds-put_field-start-2 : goal.slice_bounds-put_field-start-2
slice_bounds-put_field-start-2 c = slice_bounds-put_field-count-2 c

pub slice_bounds-put_field-start-3 : goal.slice_bounds-put_field-start-3
slice_bounds-put_field-start-3 c = slice_bounds-put_field-count-3 c
