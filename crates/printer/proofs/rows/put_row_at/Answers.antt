-- By the test for a start, and by the layout that the view gives there.
use mathlib.Core.Path.{◌≡◌, refl, sym, ◌∙◌}
use mathlib.Core.Bool.{true}
use native.Mathlib.Omega.{arith}
use Prim.Native.Nat.{◌-◌}
use lib.ListN.{length, get_or, drop, length-drop}
use lib.Seq.{length-take-le}
use Rattle.decoder.specs.Layout.{Fitting}
use Rattle.decoder.proofs.Layouts.{fits_at, decoded_fits, decoded_not}
use Rattle.acceptance.specs.Image.{is_start, mark_m, mark_x}
use Rattle.printer.proofs.RowLaws.{no_row, whole_size, whole_put, unread_row}
use Rattle.printer.proofs.rows.put_row_at.Goals as goal

pub returns-then-not-is_start : goal.returns-then-not-is_start
returns-then-not-is_start c =
    let place = c.args.place.now in
    let none =
    no_row place.image.now place.marks.bytes.now place.marks.base place.at
    (rw (c.is_start.ensures, c.mark-mark.ensures) at c.if-not-is_start.true) in
    (rw none refl, rw none refl)

pub slice_bounds-bytes-end : goal.slice_bounds-bytes-end
slice_bounds-bytes-end c =
    let place = c.args.place.now in
    let mark = get_or place.marks.bytes.now place.at 0 in
    let fits : Fitting (length place.image.now - place.at) c.in-Ok.layout =
    fits_at place.image.now place.at (mark_m mark) (mark_x mark) c.layout_at.result c.layout_at.ensures
    c.in-Ok.layout c.in-Ok.is in
    rw c.bytes.ensures
    (sym (length-take-le c.in-Ok.layout.length (drop place.at place.image.now)
    (rw (length-drop place.at place.image.now) fits.3)))

pub put_row-requires : goal.put_row-requires
put_row-requires c =
    let place = c.args.place.now in
    let mark = get_or place.marks.bytes.now place.at 0 in
    let started : is_start mark ≡ true = rw (c.is_start.ensures, c.mark-mark.ensures) at c.if-not-is_start.false in
    let whole =
    decoded_fits place.image.now place.at (mark_m mark) (mark_x mark) c.layout_at.result c.layout_at.ensures
    c.in-Ok.layout _ c.in-Ok.is refl in
    omega (
      arith,
      c.requires,
      whole_size place.image.now place.marks.bytes.now place.marks.base place.at started _ (sym whole),
    )

pub returns : goal.returns
returns c =
    let place = c.args.place.now in
    let mark = get_or place.marks.bytes.now place.at 0 in
    let started : is_start mark ≡ true = rw (c.is_start.ensures, c.mark-mark.ensures) at c.if-not-is_start.false in
    let whole =
    decoded_fits place.image.now place.at (mark_m mark) (mark_x mark) c.layout_at.result c.layout_at.ensures
    c.in-Ok.layout _ c.in-Ok.is refl in (
      whole_size place.image.now place.marks.bytes.now place.marks.base place.at started _ (sym whole),
      whole_put place.image.now place.marks.bytes.now place.marks.base place.at started _ (sym whole)
          c.put_row.new.page c.args.page.now
          (rw (c.number.ensures.0 ∙ c.address.ensures, c.bytes.ensures, c.mark-mark.ensures) at c.put_row.ensures),
    )

pub returns-in_default : goal.returns-in_default
returns-in_default c =
    let place = c.args.place.now in
    let mark = get_or place.marks.bytes.now place.at 0 in
    let started : is_start mark ≡ true = rw (c.is_start.ensures, c.mark-mark.ensures) at c.if-not-is_start.false in
    let none =
    unread_row place.image.now place.marks.bytes.now place.marks.base place.at started _
    (sym (decoded_not place.image.now place.at (mark_m mark) (mark_x mark) c.layout_at.result c.layout_at.ensures
    c.in_default.is)) in
    (rw none refl, rw none refl)
