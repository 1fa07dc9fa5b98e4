-- A refusal leaves the places; nothing is written before the last test, and then the pass writes them.
use mathlib.Core.Path.{refl}
use native.Mathlib.Omega.{arith}
use Rattle.std.specs.Prelude.{Ok, Err}
use Rattle.std.proofs.lemmas.Result.{err_from_is_err_and}
use Rattle.locator.proofs.Answers.{as_many, in_space, refused_then, fit, room, places_found}
use Rattle.locator.proofs.locate.Goals as goal

pub test_addresses-requires : goal.test_addresses-requires
test_addresses-requires c =
    let args = c.args in
    omega (
      arith,
      in_space args.image.now args.marks.now args.base c.requires.0 args.addresses.now
          args.places.now c.requires.1,
    )

pub returns-in_err-test_addresses : goal.returns-in_err-test_addresses
returns-in_err-test_addresses c reset accepted =
    let args = c.args in
    let p = err_from_is_err_and c.from_residual.result c.from_residual.ensures.1 in
    rw (p.1, p.2)
    (refused_then args.image.now args.marks.now args.base reset args.addresses.now args.places.now
    accepted (Err c.in_err-test_addresses.field-0.0) c.in_err-test_addresses.ensures _ refl)

pub invariant_of-beside : goal.invariant_of-beside
invariant_of-beside c =
    let args = c.args in
    let space = in_space args.image.now args.marks.now args.base c.requires.0 args.addresses.now
    args.places.now c.requires.1 in
    let same = as_many args.image.now args.marks.now args.base c.requires.0 args.addresses.now
    args.places.now c.requires.1 in
    record { low = omega (arith, space, same) }

pub pass_marks-requires : goal.pass_marks-requires
pass_marks-requires c =
    let args = c.args in
    let passes = refl in (
      as_many args.image.now args.marks.now args.base c.requires.0 args.addresses.now
          args.places.now c.requires.1,
      fit args.image.now args.marks.now args.base c.requires.0 args.addresses.now args.places.now
          c.requires.1 (Ok c.in_ok-test_addresses.field-0) c.in_ok-test_addresses.ensures passes,
      room args.image.now args.marks.now args.base c.requires.0 args.addresses.now args.places.now
          c.requires.1 (Ok c.in_ok-test_addresses.field-0) c.in_ok-test_addresses.ensures passes,
    )

pub returns : goal.returns
returns c reset accepted =
    let args = c.args in
    places_found args.image.now args.marks.now args.base reset args.addresses.now args.places.now
    accepted (Ok c.in_ok-test_addresses.field-0) c.in_ok-test_addresses.ensures refl
    c.pass_marks.result c.pass_marks.new.places c.pass_marks.ensures.0
    c.pass_marks.ensures.1
