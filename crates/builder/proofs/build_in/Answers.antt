-- What was read and worked out decides the answer; no mark is written before the last test, and then all are.
use mathlib.Core.Path.{◌≡◌, sym, subst, ◌∙◌}
use native.Mathlib.Omega.{arith}
use lib.ListN.{length}
use borrow.Author.Tests.{not-false}
use Rattle.lists.specs.Routines.{routine_marks, routines_fit, Plain}
use Rattle.acceptance.proofs.Image.{RightLength}
use Rattle.builder.proofs.Answering.{right, ends_low, not_fit, not_admitted, admitted, table_plain, copied}
use mathlib.Core.Path.{ap}
use mathlib.Core.Bool.{not}
use Rattle.builder.proofs.build_in.Goals as goal

pub read_routines-requires : goal.read_routines-requires
read_routines-requires c =
    let bounds : RightLength (length c.args.image.now) (length c.args.marks.now) =
    let args = c.args in
    right args.image.now args.base args.reset args.routines.now args.marks.now c.requires.2 in
    omega (arith, c.requires.0, bounds.few)

pub returns-then-not-read_routines : goal.returns-then-not-read_routines
returns-then-not-read_routines c =
    let fit : c.read_routines.result
    ≡ routines_fit c.args.base (length c.args.image.now) c.args.routines.now =
    rw c.requires.0 at c.read_routines.ensures.fit in
    let args = c.args in
    let said =
    not_fit args.image.now args.base args.reset args.routines.now args.marks.now c.requires.2
    (sym fit ∙ c.if-not-read_routines.true) in
    record { answer = said.0; marks = said.1 }

pub work_out-requires : goal.work_out-requires
work_out-requires c =
    let bounds : RightLength (length c.args.image.now) (length c.args.marks.now) =
    let args = c.args in
    right args.image.now args.base args.reset args.routines.now args.marks.now c.requires.2 in
    let listed : c.read_routines.new.table
    ≡ routine_marks c.args.base (length c.args.image.now) c.args.routines.now =
    rw c.requires.0 at c.read_routines.ensures.marks in
    let args = c.args in (
      subst Plain (sym listed)
          (table_plain args.base (length args.image.now) args.routines.now),
      c.table-1.given ∙ c.requires.0,
      c.requires.1,
      bounds.few,
      ends_low args.image.now args.base args.reset args.routines.now args.marks.now c.requires.2,
    )

pub returns-then-not-work_out : goal.returns-then-not-work_out
returns-then-not-work_out c =
    let fit : c.read_routines.result
    ≡ routines_fit c.args.base (length c.args.image.now) c.args.routines.now =
    rw c.requires.0 at c.read_routines.ensures.fit in
    let listed : c.read_routines.new.table
    ≡ routine_marks c.args.base (length c.args.image.now) c.args.routines.now =
    rw c.requires.0 at c.read_routines.ensures.marks in
    let args = c.args in
    let said =
    not_admitted args.image.now args.base args.reset args.routines.now args.marks.now
    c.requires.2
    (sym fit ∙ c.if-not-read_routines.false)
    c.read_routines.new.table c.work_out.new.made listed
    (c.made-1.given ∙ c.requires.1) c.work_out.ensures.0
    (sym c.work_out.ensures.1 ∙ c.if-not-work_out.true) in
    record { answer = said.0; marks = said.1 }

pub put_bytes-requires : goal.put_bytes-requires
put_bytes-requires c =
    let bounds : RightLength (length c.args.image.now) (length c.args.marks.now) =
    let args = c.args in
    right args.image.now args.base args.reset args.routines.now args.marks.now c.requires.2 in
    omega (arith, c.made-1.given, c.requires.1, bounds.same)

pub returns : goal.returns
returns c =
    let bounds : RightLength (length c.args.image.now) (length c.args.marks.now) =
    let args = c.args in
    right args.image.now args.base args.reset args.routines.now args.marks.now c.requires.2 in
    let fit : c.read_routines.result
    ≡ routines_fit c.args.base (length c.args.image.now) c.args.routines.now =
    rw c.requires.0 at c.read_routines.ensures.fit in
    let listed : c.read_routines.new.table
    ≡ routine_marks c.args.base (length c.args.image.now) c.args.routines.now =
    rw c.requires.0 at c.read_routines.ensures.marks in
    let args = c.args in
    let size = c.made-1.given ∙ c.requires.1 in
    let done = admitted args.image.now args.base args.reset args.routines.now args.marks.now
    c.requires.2 (sym fit ∙ c.if-not-read_routines.false)
    c.read_routines.new.table c.work_out.new.made listed size
    c.work_out.ensures.0 (sym c.work_out.ensures.1 ∙ not-false c.work_out.result
    (ap not c.if-not-work_out.false)) in
    record {
      answer = done.0;
      marks = copied c.work_out.new.made args.marks.now c.put_bytes.new.page
          (bounds.same ∙ sym size) c.put_bytes.ensures ∙ done.1;
    }
