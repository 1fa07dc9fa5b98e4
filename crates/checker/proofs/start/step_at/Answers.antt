use Rattle.std.proofs.lemmas.Result.{err_from_is_err_and}
use Rattle.std.proofs.Common.{drop}
use Rattle.decoder.specs.Layout.{instruction_of}
use Rattle.checker.proofs.Steps.{no_start_step, undecoded_step, broken_step, whole_step}
use Rattle.checker.proofs.start.step_at.Goals as goal

pub returns-then-not-is_start : goal.returns-then-not-is_start
returns-then-not-is_start c =
    let place = c.args.place.now in
    no_start_step place.image.now place.marks.bytes.now place.marks.base place.at
    (rw (c.is_start.ensures, c.mark.ensures) at c.if-not-is_start.true)

pub returns-in_err-instruction : goal.returns-in_err-instruction
returns-in_err-instruction c =
    let place = c.args.place.now in
    let p = err_from_is_err_and c.from_residual.result c.from_residual.ensures.1 in
    rw (p.1, p.2)
    (undecoded_step place.image.now place.marks.bytes.now place.marks.base place.at
    (rw (c.is_start.ensures, c.mark.ensures) at c.if-not-is_start.false)
    _ c.in_err-instruction.ensures.read)

pub returns-in_err-test_whole : goal.returns-in_err-test_whole
returns-in_err-test_whole c =
    let place = c.args.place.now in
    let p = err_from_is_err_and c.from_residual-in_err-test_whole.result c.from_residual-in_err-test_whole.ensures.1 in
    rw (p.1, p.2)
    (broken_step place.image.now place.marks.bytes.now place.marks.base place.at
    (rw (c.is_start.ensures, c.mark.ensures) at c.if-not-is_start.false)
    (instruction_of (drop place.at place.image.now) c.in_ok-instruction.instruction.layout)
    (rw c.in_ok-instruction.ensures.here at c.in_ok-instruction.ensures.read) _
    (rw c.in_ok-instruction.ensures.here at c.in_err-test_whole.ensures))

pub returns : goal.returns
returns c =
    let place = c.args.place.now in
    whole_step place.image.now place.marks.bytes.now place.marks.base place.at
    (rw (c.is_start.ensures, c.mark.ensures) at c.if-not-is_start.false)
    (instruction_of (drop place.at place.image.now) c.in_ok-instruction.instruction.layout)
    (rw c.in_ok-instruction.ensures.here at c.in_ok-instruction.ensures.read) c.in_ok-test_whole.field-0
    (rw c.in_ok-instruction.ensures.here at c.in_ok-test_whole.ensures)
